-- What stands before a removed run stays where it is.
use Rattle.std.proofs.Common.{◌≡◌, ◌≢◌, ℕ, ◌+◌, ◌-◌, ◌<◌, Bool, true, false, not, nat_le, nat_lt, ◌&&◌, ◌||◌, ◌==◌, if◌then◌else◌, inl, inr, List, []}
use Rattle.std.proofs.Common.{◌∷◌, ◌++◌, refl, sym, ap, ◌∙◌, arith}
use Rattle.std.proofs.lemmas.Bool.Decides.{nat_tests}
use Rattle.item_definitions.specs.Children.{parent_of, offset_of}
use Rattle.item_definitions.specs.Position.{Range, between, not_after}
use Rattle.item_definitions.specs.Shift.{remove, carry_remove, carry_range, rule_remove, within}
use Rattle.item_definitions.proofs.Order.{not_after-cons, not_after-same}
use Rattle.item_definitions.proofs.Paths.{path-joined}
use Rattle.item_definitions.proofs.Minimal.{not_after-trans}
use Rattle.operation_definitions.proofs.Moves.{decide, within-same, within-other}

rule-before : (o count n : ℕ) (path : List ℕ) → not_after (n ∷ path) (o ∷ []) ≡ true → rule_remove o count (n ∷ path) ≡ n ∷ path
rule-before o count n [] e = go (sym (not_after-cons n o [] []) ∙ e)
  where
    go : (nat_lt n o || (n == o && true)) ≡ true → (if nat_le (o + count) n then (n - count) ∷ [] else (if nat_le o n then o ∷ [] else n ∷ [])) ≡ n ∷ []
    go h = pick (nat_le (o + count) n) refl (nat_le o n) refl
      where
        pick : (t : Bool) → nat_le (o + count) n ≡ t → (u : Bool) → nat_le o n ≡ u → (if t then (n - count) ∷ [] else (if u then o ∷ [] else n ∷ [])) ≡ n ∷ []
        pick true t u s = (let same : n - count ≡ n = grind (arith, nat_tests) in ap (λ m. m ∷ []) same)
        pick false t true s = (let same : o ≡ n = grind (arith, nat_tests) in ap (λ m. m ∷ []) same)
        pick false t false s = refl
rule-before o count n (next ∷ path) e = pick (nat_le (o + count) n) refl (nat_le o n) refl (less (sym (not_after-cons n o (next ∷ path) []) ∙ e))
  where
    less : (nat_lt n o || (n == o && false)) ≡ true → n < o
    less h = grind (arith, nat_tests)

    pick : (t : Bool) → nat_le (o + count) n ≡ t → (u : Bool) → nat_le o n ≡ u → n < o
        → (if t then (n - count) ∷ next ∷ path else (if u then o ∷ [] else n ∷ next ∷ path)) ≡ n ∷ next ∷ path
    pick true t u s l = absurd (grind (arith, nat_tests))
    pick false t true s l = absurd (grind (arith, nat_tests))
    pick false t false s l = refl

within-before : (parent : List ℕ) (o count : ℕ) (position : List ℕ) → not_after position (parent ++ o ∷ []) ≡ true
    → within parent (rule_remove o count) position ≡ position
within-before [] o count [] e = refl
within-before [] o count (n ∷ path) e = rule-before o count n path e
within-before (s ∷ parent) o count [] e = refl
within-before (s ∷ parent) o count (n ∷ path) e =
    elim (decide s n) [
      | inl same ↦ ap (λ v. within (s ∷ parent) (rule_remove o count) (v ∷ path)) (sym same) ∙ within-same s parent path (rule_remove o count)
          ∙ (λ t. same t ∷ within-before parent o count path (sym (not_after-same s path (parent ++ o ∷ []))
          ∙ ap (λ v. not_after (v ∷ path) (s ∷ (parent ++ o ∷ []))) same ∙ e) t)
      | inr apart ↦ within-other s n parent path (rule_remove o count) apart
    ]

pub carry-before : (at_ : List ℕ) (count : ℕ) (position : List ℕ) → at_ ≢ [] → not_after position at_ ≡ true → carry_remove at_ count position ≡ position
carry-before at_ count position some e = within-before (parent_of at_) (offset_of at_) count position (ap (not_after position) (sym (path-joined at_ some)) ∙ e)

pub range-before : (at_ : List ℕ) (count : ℕ) (range : Range) → at_ ≢ [] → not_after range.start range.end ≡ true → not_after range.end at_ ≡ true
    → carry_range (remove at_ count) range ≡ range
range-before at_ count range some ordered before =
    let start = carry-before at_ count range.start some (not_after-trans range.start range.end at_ ordered before) in
    let end = carry-before at_ count range.end some before in
    (λ t. if not (not_after (start t) (end t)) then between (start t) (start t) else between (start t) (end t))
    ∙ ap (λ b. if not b then between range.start range.start else range) ordered
