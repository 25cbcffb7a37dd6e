-- What a spot lists, as it is seen from an element.
use Rattle.std.proofs.Common.{◌≡◌, ℕ, ◌+◌, ◌≤◌, ◌<◌, inl, inr, List, [], ◌∷◌, Bool, true, false, ◌==◌, ◌&&◌, ◌||◌, length, take, get_or, refl, sym, ap, ◌∙◌}
use Rattle.std.proofs.Common.{arith}
use Rattle.std.specs.List.{list_any}
use Rattle.std.proofs.lemmas.List.Folds.{list_any_more, list_any_kept}
use Rattle.operation_definitions.proofs.Moves.{decide}
use Rattle.breach_definitions.specs.Spots.{is_in_run, is_within}

and-false : (a : Bool) → (a && false) ≡ false
and-false true = refl
and-false false = refl

or-true : (a : Bool) → (a || true) ≡ true
or-true true = refl
or-true false = refl

-- a spot whose path goes on doesn't list the items of the element
pub past_run : (parent : List ℕ) (start end index : ℕ) → 0 < length parent → is_in_run parent start end (index ∷ []) ≡ false
past_run [] start end index some = absurd (omega arith)
past_run (first ∷ []) start end index some = and-false (first == index)
past_run (first ∷ next ∷ parent) start end index some = and-false (first == index)

pub past_subtree : (outer rest : List ℕ) (first index : ℕ) → outer ≡ first ∷ rest → 0 < length rest → is_within outer (index ∷ []) ≡ false
past_subtree outer [] first index e some = absurd (omega arith)
past_subtree outer (next ∷ rest) first index e some = ap (λ path. is_within path (index ∷ [])) e ∙ and-false (first == index)

pub one_subtree : (outer rest : List ℕ) (first index : ℕ) → outer ≡ first ∷ rest → length rest ≡ 0 → is_within outer (index ∷ []) ≡ (first == index)
one_subtree outer [] first index e none = ap (λ path. is_within path (index ∷ [])) e ∙ and-true (first == index)
  where
    and-true : (a : Bool) → (a && true) ≡ a
    and-true true = refl
    and-true false = refl
one_subtree outer (next ∷ rest) first index e none = absurd (omega arith)

-- one spot more
module _ {X : Type 0} where
  pub none_before : (test : ℕ → X → Bool) (xs : List X) (k : ℕ) (x : X) (from first next : ℕ) → k < length xs → x ≡ get_or xs k x → next ≤ first
      → ((i : ℕ) → from ≤ i → i < first → list_any (test i) (take k xs) ≡ false) → ((i : ℕ) → from ≤ i → i < next → test i x ≡ false)
      → (i : ℕ) → from ≤ i → i < next → list_any (test i) (take (k + 1) xs) ≡ false
  none_before test xs k x from first next less is le before here i low high =
      list_any_more (test i) xs k x less
      ∙ ap (λ y. list_any (test i) (take k xs) || test i y) (sym is)
      ∙ (λ j. before i low (omega arith) j || here i low high j)
