-- How the places of a move are carried, there and back.
use Rattle.std.proofs.Common.{◌≡◌, ◌≢◌, ℕ, ◌+◌, ◌-◌, ◌<◌, ◌≤◌, ◌⊎◌, inl, inr, Bool, true, false, ◌&&◌, ◌||◌, nat_lt, nat_le, ◌==◌, if◌then◌else◌, List, [], ◌∷◌}
use Rattle.std.proofs.Common.{◌++◌, Option, Some, None, refl, sym, ap, ◌∙◌, subst, arith}
use Rattle.std.specs.Option.{option_map_or}
use Rattle.std.proofs.lemmas.Bool.Decides.{nat_tests}
use Rattle.item_definitions.specs.Children.{at}
use Rattle.item_definitions.specs.Position.{not_after}
use Rattle.item_definitions.specs.Shift.{to_next, within, rest_behind, comes_before, rule_insert, rule_remove, forward}
use Rattle.item_definitions.proofs.Order.{not_after-cons, not_after-none, not_after-same}

pub within-same : (s : ℕ) (parent path : List ℕ) (rule : List ℕ → List ℕ) → within (s ∷ parent) rule (s ∷ path) ≡ s ∷ within parent rule path
within-same s parent path rule = ap (λ t. option_map_or (λ rest. s ∷ (parent ++ rule rest)) (if t then rest_behind parent path else None) (s ∷ path))
    (own s) ∙ go (rest_behind parent path)
  where
    own : (s : ℕ) → (s == s) ≡ true
    own s = grind (arith, nat_tests)

    go : (o : Option (List ℕ)) → option_map_or (λ rest. s ∷ (parent ++ rule rest)) o (s ∷ path) ≡ s ∷ option_map_or (λ rest. parent ++ rule rest) o path
    go None = refl
    go (Some rest) = refl

pub within-other : (s i : ℕ) (parent path : List ℕ) (rule : List ℕ → List ℕ) → s ≢ i → within (s ∷ parent) rule (i ∷ path) ≡ i ∷ path
within-other s i parent path rule differ =
    ap (λ t. option_map_or (λ rest. s ∷ (parent ++ rule rest)) (if t then rest_behind parent path else None) (i ∷ path)) (no s i differ)
  where
    no : (s i : ℕ) → s ≢ i → (s == i) ≡ false
    no s i d = grind (arith, nat_tests)

-- two numbers are equal or not
abbrev pub same_or_not : ℕ → ℕ → Type 0
same_or_not s i = (s ≡ i) ⊎ (s ≢ i)

pub decide : (s i : ℕ) → same_or_not s i
decide s i = go (s == i) refl
  where
    go : (t : Bool) → t ≡ (s == i) → same_or_not s i
    go true t = inl (grind (arith, nat_tests))
    go false t = inr (λ e. grind (arith, nat_tests))

pub before-le : (at number : ℕ) (path : List ℕ) → comes_before at to_next number path ≡ nat_le at number
before-le at number [] = grind (arith, nat_tests)
before-le at number (next ∷ path) = refl

pub insert-is : (at count number : ℕ) (path : List ℕ) → rule_insert at count to_next (number ∷ path)
    ≡ (if nat_le at number then number + count else number) ∷ path
insert-is at count number path = ap (λ t. (if t then number + count else number) ∷ path) (before-le at number path)

-- where a position is after `count` items came in at an offset of a parent, and after they went
abbrev pub put : List ℕ → ℕ → ℕ → List ℕ → List ℕ
put parent offset count position = within parent (rule_insert offset count to_next) position

abbrev pub cut : List ℕ → ℕ → ℕ → List ℕ → List ℕ
cut parent offset count position = within parent (rule_remove offset count) position

rule-again : (at count : ℕ) (position : List ℕ) → rule_remove at count (rule_insert at count to_next position) ≡ position
rule-again at count [] = refl
rule-again at count (number ∷ path) = ap (rule_remove at count) (insert-is at count number path) ∙ go (nat_le at number) refl
  where
    go : (t : Bool) → t ≡ nat_le at number → rule_remove at count ((if t then number + count else number) ∷ path) ≡ number ∷ path
    go true t = first (nat_le (at + count) (number + count)) (grind (arith, nat_tests))
      where
        first : (u : Bool) → u ≡ true → (if u then (number + count - count) ∷ path
            else (if nat_le at (number + count) then at ∷ [] else (number + count) ∷ path)) ≡ number ∷ path
        first true e = (let same : number + count - count ≡ number = omega arith in ap (λ k. k ∷ path) same)
        first false e = absurd cc
    go false t = second (nat_le (at + count) number) (nat_le at number) (grind (arith, nat_tests)) (sym t)
      where
        second : (u v : Bool) → u ≡ false → v ≡ false → (if u then (number - count) ∷ path else (if v then at ∷ [] else number ∷ path)) ≡ number ∷ path
        second true v e f = absurd cc
        second false true e f = absurd cc
        second false false e f = refl

-- what came in goes again, and a position is where it was
pub put-cut : (parent : List ℕ) (offset count : ℕ) (position : List ℕ) → cut parent offset count (put parent offset count position) ≡ position
put-cut [] offset count position = rule-again offset count position
put-cut (s ∷ parent) offset count [] = refl
put-cut (s ∷ parent) offset count (i ∷ path) =
    elim (decide s i) [
      | inl same ↦ subst (λ v. cut (s ∷ parent) offset count (put (s ∷ parent) offset count (v ∷ path)) ≡ v ∷ path) same
          (ap (cut (s ∷ parent) offset count) (within-same s parent path (rule_insert offset count to_next))
          ∙ within-same s parent (put parent offset count path) (rule_remove offset count)
          ∙ ap (λ rest. s ∷ rest) (put-cut parent offset count path))
      | inr differ ↦ ap (cut (s ∷ parent) offset count) (within-other s i parent path (rule_insert offset count to_next) differ)
          ∙ within-other s i parent path (rule_remove offset count) differ
    ]

-- a position is in a run or at its ends
abbrev pub in_run : List ℕ → ℕ → ℕ → List ℕ → Bool
in_run parent offset count position = not_after (parent ++ offset ∷ []) position && not_after position (parent ++ (offset + count) ∷ [])

and-none : (a : Bool) → (a && false) ≡ false
and-none true = refl
and-none false = refl

-- a position that isn't where items come in is not among them then
pub put-outside : (parent : List ℕ) (offset count : ℕ) (position : List ℕ) → parent ++ offset ∷ [] ≢ position
    → in_run parent offset count (put parent offset count position) ≡ false
put-outside [] offset count [] differ = refl
put-outside [] offset count (number ∷ path) differ =
    ap (λ p. not_after (offset ∷ []) p && not_after p ((offset + count) ∷ [])) (insert-is offset count number path) ∙ go (nat_le offset number) refl
  where
    go : (t : Bool) → t ≡ nat_le offset number
        → (not_after (offset ∷ []) ((if t then number + count else number) ∷ path)
        && not_after ((if t then number + count else number) ∷ path) ((offset + count) ∷ [])) ≡ false
    go true t = ap (λ b. not_after (offset ∷ []) ((number + count) ∷ path) && b) (not_after-cons (number + count) (offset + count) path []
        ∙ last path (λ e. differ e)) ∙ and-none (not_after (offset ∷ []) ((number + count) ∷ path))
      where
        last : (path : List ℕ) → (offset ∷ [] ≢ number ∷ path)
            → (nat_lt (number + count) (offset + count) || (number + count == offset + count && not_after path [])) ≡ false
        last [] d = (let apart : offset ≢ number = λ e. d (ap (λ n. n ∷ []) e) in grind (arith, nat_tests))
        last (x ∷ path) d = grind (arith, nat_tests)
    go false t = ap (λ b. b && not_after (number ∷ path) ((offset + count) ∷ [])) (not_after-cons offset number [] path ∙ none (not_after [] path) t)
      where
        none : (b : Bool) → false ≡ nat_le offset number → (nat_lt offset number || (offset == number && b)) ≡ false
        none b t = grind (arith, nat_tests)
put-outside (s ∷ parent) offset count [] differ = refl
put-outside (s ∷ parent) offset count (i ∷ path) differ =
    elim (decide s i) [
      | inl same ↦ subst (λ v. in_run (s ∷ parent) offset count (put (s ∷ parent) offset count (v ∷ path)) ≡ false) same
          (ap (in_run (s ∷ parent) offset count) (within-same s parent path (rule_insert offset count to_next))
          ∙ (λ t. not_after-same s (parent ++ offset ∷ []) (put parent offset count path) t
          && not_after-same s (put parent offset count path) (parent ++ (offset + count) ∷ []) t)
          ∙ put-outside parent offset count path (λ e. differ (let f : parent ++ offset ∷ [] ≡ path = e in let g : s ≡ i = same in cc)))
      | inr apart ↦ ap (in_run (s ∷ parent) offset count) (within-other s i parent path (rule_insert offset count to_next) apart)
          ∙ (λ t. not_after-cons s i (parent ++ offset ∷ []) path t && not_after-cons i s path (parent ++ (offset + count) ∷ []) t)
          ∙ none s i (not_after (parent ++ offset ∷ []) path) (not_after path (parent ++ (offset + count) ∷ [])) apart
    ]
  where
    none : (s i : ℕ) (a b : Bool) → s ≢ i → ((nat_lt s i || (s == i && a)) && (nat_lt i s || (i == s && b))) ≡ false
    none s i a b d = grind (arith, nat_tests)

-- a position outside of a run does not come to where the run was
pub cut-outside : (parent : List ℕ) (offset count : ℕ) (position : List ℕ) → in_run parent offset count position ≡ false
    → cut parent offset count position ≢ parent ++ offset ∷ []
cut-outside [] offset count [] out e = absurd cc
cut-outside [] offset count (number ∷ path) out e = go (nat_le (offset + count) number) (nat_le offset number) refl refl e
  where
    whole : ((nat_lt offset number || (offset == number && not_after [] path))
        && (nat_lt number (offset + count) || (number == offset + count && not_after path []))) ≡ false
    whole = (λ t. sym (not_after-cons offset number [] path) t && sym (not_after-cons number (offset + count) path []) t) ∙ out

    at_end : (path : List ℕ) → ((nat_lt offset number || (offset == number && not_after [] path))
        && (nat_lt number (offset + count) || (number == offset + count && not_after path []))) ≡ false
        → offset + count ≤ number → (number - count) ∷ path ≡ offset ∷ [] → ⊥
    at_end [] w room e = (let same : number - count ≡ offset = cc in grind (arith, nat_tests))
    at_end (x ∷ path) w room e = cc

    among : (b c : Bool) → b ≡ true
        → ((nat_lt offset number || (offset == number && b)) && (nat_lt number (offset + count) || (number == offset + count && c))) ≡ false
        → offset ≤ number → number < offset + count → ⊥
    among b c f w least most = grind (arith, nat_tests)

    go : (t u : Bool) → t ≡ nat_le (offset + count) number → u ≡ nat_le offset number
        → (if t then (number - count) ∷ path else (if u then offset ∷ [] else number ∷ path)) ≡ offset ∷ [] → ⊥
    go true u t v e = at_end path whole (grind (arith, nat_tests)) e
    go false true t v e = among (not_after [] path) (not_after path []) (not_after-none path) whole (grind (arith, nat_tests)) (grind (arith, nat_tests))
    go false false t v e = (let same : number ≡ offset = cc in grind (arith, nat_tests))
cut-outside (s ∷ parent) offset count [] out e = absurd cc
cut-outside (s ∷ parent) offset count (i ∷ path) out e =
    elim (decide s i) [
      | inl same ↦ (let out' = subst (λ v. in_run (s ∷ parent) offset count (v ∷ path) ≡ false) (sym same) out in
          let e' = subst (λ v. cut (s ∷ parent) offset count (v ∷ path) ≡ s ∷ (parent ++ offset ∷ [])) (sym same) e in
          let f : s ∷ cut parent offset count path ≡ s ∷ (parent ++ offset ∷ []) = sym (within-same s parent path (rule_remove offset count)) ∙ e' in
          cut-outside parent offset count path
          ((λ t. sym (not_after-same s (parent ++ offset ∷ []) path) t && sym (not_after-same s path (parent ++ (offset + count) ∷ [])) t) ∙ out') cc)
      | inr apart ↦ (let f : i ∷ path ≡ s ∷ (parent ++ offset ∷ []) = sym (within-other s i parent path (rule_remove offset count) apart) ∙ e in
          let g : s ≡ i = cc in apart g)
    ]

-- the end of a run
pub forward-is : (count : ℕ) (parent : List ℕ) (offset : ℕ) → forward count (parent ++ offset ∷ []) ≡ parent ++ (offset + count) ∷ []
forward-is count [] offset = refl
forward-is count (x ∷ []) offset = refl
forward-is count (x ∷ y ∷ parent) offset = ap (λ path. x ∷ path) (forward-is count (y ∷ parent) offset)

-- no position is carried to the empty path
pub cut-some : (parent : List ℕ) (offset count : ℕ) (position : List ℕ) → position ≢ [] → cut parent offset count position ≢ []
cut-some parent offset count [] some e = some refl
cut-some [] offset count (number ∷ path) some e = go (nat_le (offset + count) number) (nat_le offset number) e
  where
    go : (t u : Bool) → (if t then (number - count) ∷ path else (if u then offset ∷ [] else number ∷ path)) ≡ [] → ⊥
    go true u e = cc
    go false true e = cc
    go false false e = cc
cut-some (s ∷ parent) offset count (i ∷ path) some e =
    elim (decide s i) [
      | inl same ↦ (let f : s ∷ cut parent offset count path ≡ [] = sym (within-same s parent path (rule_remove offset count))
          ∙ ap (λ v. cut (s ∷ parent) offset count (v ∷ path)) same ∙ e in cc)
      | inr apart ↦ (let f : i ∷ path ≡ [] = sym (within-other s i parent path (rule_remove offset count) apart) ∙ e in cc)
    ]
