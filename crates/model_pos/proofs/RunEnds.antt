-- Where a position stands to the end of a run.
use Rattle.std.proofs.Common.{◌≡◌, ℕ, ◌+◌, ◌-◌, ◌<◌, Bool, true, false, ◌&&◌, ◌||◌, not, nat_lt, ◌==◌, if◌then◌else◌, List, [], ◌∷◌, ◌++◌, length, Some, None}
use Rattle.std.proofs.Common.{unwrap_or, refl, sym, ap, ◌∙◌, subst, arith, Fits, w32}
use Rattle.std.proofs.lemmas.Bool.Decides.{nat_tests}
use Rattle.std.specs.Ordering.{is_le, is_gt}
use Rattle.std.specs.declared.cmp.Ordering.{Ordering}
use Rattle.std.specs.declared.cmp.Ordering.TheVariants.{Less, Equal, Greater}
use Rattle.item_definitions.specs.Children.{parent_of, offset_of}
use Rattle.item_definitions.specs.Position.{not_after}
use Rattle.item_definitions.specs.Shift.{IsWithinLimits, forward, rest_behind, run_place, with_run}
use Rattle.item_definitions.proofs.Order.{not_after-cons, not_after-parent}
use Rattle.model_pos.specs.Untouched.{IsOutside}
use Rattle.model_pos.proofs.Rules.{rest_behind-joined, fits-at}

forward-push : (count : ℕ) (parent : List ℕ) (offset : ℕ) → forward count (parent ++ offset ∷ []) ≡ parent ++ (offset + count) ∷ []
forward-push count [] offset = refl
forward-push count (x ∷ []) offset = refl
forward-push count (x ∷ y ∷ parent) offset = ap (λ path. x ∷ path) (forward-push count (y ∷ parent) offset)

-- a position outside of a parent is on the same side of all places in it
outside-first : (parent position : List ℕ) (a b : ℕ) → IsOutside parent position → not_after position (parent ++ a ∷ []) ≡ not_after position (parent ++ b ∷ [])
outside-first [] [] a b e = refl
outside-first [] (x ∷ position) a b e = absurd cc
outside-first (step ∷ parent) [] a b e = refl
outside-first (step ∷ parent) (index ∷ path) a b e =
    not_after-cons index step path (parent ++ a ∷ []) ∙ go (step == index) refl e (outside-first parent path a b)
    ∙ sym (not_after-cons index step path (parent ++ b ∷ []))
  where
    go : (t : Bool) → t ≡ (step == index) → unwrap_or (if t then rest_behind parent path else None) [] ≡ []
        → (IsOutside parent path → not_after path (parent ++ a ∷ []) ≡ not_after path (parent ++ b ∷ []))
        → (nat_lt index step || (index == step && not_after path (parent ++ a ∷ [])))
        ≡ (nat_lt index step || (index == step && not_after path (parent ++ b ∷ [])))
    go true t e rest = ap (λ v. nat_lt index step || (index == step && v)) (rest e)
    go false t e rest = other index step (not_after path (parent ++ a ∷ [])) (not_after path (parent ++ b ∷ [])) t
      where
        other : (index step : ℕ) (c d : Bool) → false ≡ (step == index) → (nat_lt index step || (index == step && c))
            ≡ (nat_lt index step || (index == step && d))
        other index step c d t = grind (arith, nat_tests)

outside-second : (parent position : List ℕ) (a b : ℕ) → IsOutside parent position → not_after (parent ++ a ∷ []) position
    ≡ not_after (parent ++ b ∷ []) position
outside-second [] [] a b e = refl
outside-second [] (x ∷ position) a b e = absurd cc
outside-second (step ∷ parent) [] a b e = refl
outside-second (step ∷ parent) (index ∷ path) a b e =
    not_after-cons step index (parent ++ a ∷ []) path ∙ go (step == index) refl e (outside-second parent path a b)
    ∙ sym (not_after-cons step index (parent ++ b ∷ []) path)
  where
    go : (t : Bool) → t ≡ (step == index) → unwrap_or (if t then rest_behind parent path else None) [] ≡ []
        → (IsOutside parent path → not_after (parent ++ a ∷ []) path ≡ not_after (parent ++ b ∷ []) path)
        → (nat_lt step index || (step == index && not_after (parent ++ a ∷ []) path))
        ≡ (nat_lt step index || (step == index && not_after (parent ++ b ∷ []) path))
    go true t e rest = ap (λ v. nat_lt step index || (step == index && v)) (rest e)
    go false t e rest = ap (λ u. nat_lt step index || (u && not_after (parent ++ a ∷ []) path)) (sym t)
        ∙ ap (λ u. nat_lt step index || (u && not_after (parent ++ b ∷ []) path)) t

module _ (parent from position : List ℕ) (offset count : ℕ) (whole : from ≡ parent ++ offset ∷ []) where
  end-is : forward count from ≡ parent ++ (offset + count) ∷ []
  end-is = ap (forward count) whole ∙ forward-push count parent offset

  pub end-outside : IsOutside parent position → not_after position (forward count from) ≡ not_after position from
  end-outside e = ap (not_after position) end-is ∙ outside-first parent position (offset + count) offset e ∙ ap (not_after position) (sym whole)

  pub start-outside : IsOutside parent position → not_after (forward count from) position ≡ not_after from position
  start-outside e = ap (λ p. not_after p position) end-is ∙ outside-second parent position (offset + count) offset e
      ∙ ap (λ p. not_after p position) (sym whole)

  pub end-inside : (number : ℕ) (path : List ℕ) → rest_behind parent position ≡ Some (number ∷ path) → not_after position (forward count from)
      ≡ not_after (number ∷ path) ((offset + count) ∷ [])
  end-inside number path e =
      (λ t. not_after (rest_behind-joined parent position (number ∷ path) e t) (end-is t)) ∙ not_after-parent parent (number ∷ path) ((offset + count) ∷ [])

  pub start-inside : (number : ℕ) (path : List ℕ) → rest_behind parent position ≡ Some (number ∷ path) → not_after (forward count from) position
      ≡ not_after ((offset + count) ∷ []) (number ∷ path)
  start-inside number path e =
      (λ t. not_after (end-is t) (rest_behind-joined parent position (number ∷ path) e t)) ∙ not_after-parent parent ((offset + count) ∷ []) (number ∷ path)

pub passes-last : (number last : ℕ) (path : List ℕ) → 0 < length path → not_after (number ∷ path) (last ∷ []) ≡ nat_lt number last
passes-last number last [] e = absurd (omega arith)
passes-last number last (x ∷ path) e = not_after-cons number last (x ∷ path) [] ∙ grind (arith, nat_tests)

-- where a position of a run goes with it
pub run-goes : (parent from position path to target : List ℕ) (number offset first : ℕ) → parent ≡ parent_of from → offset ≡ offset_of from
    → target ≡ parent_of to → first ≡ offset_of to
    → rest_behind parent position ≡ Some (number ∷ path) → with_run from to position ≡ target ++ (first + (number - offset)) ∷ path
run-goes parent from position path to target number offset first e f g h k =
    ap (λ rest. run_place to (offset_of from) position (unwrap_or rest [])) (ap (λ p. rest_behind p position) (sym e) ∙ k)
    ∙ (λ t. sym g t ++ (sym h t + (number - sym f t)) ∷ path)

pub run-fits : (parent from position path to target : List ℕ) (number offset first : ℕ) → parent ≡ parent_of from → offset ≡ offset_of from
    → target ≡ parent_of to → first ≡ offset_of to
    → rest_behind parent position ≡ Some (number ∷ path) → IsWithinLimits (with_run from to position) → Fits w32 (first + (number - offset))
run-fits parent from position path to target number offset first e f g h k limits =
    fits-at target path (first + (number - offset)) (subst IsWithinLimits (run-goes parent from position path to target number offset first e f g h k) limits)

pub gt-not_le : (o : Ordering) → is_gt o ≡ not (is_le o)
gt-not_le Less = refl
gt-not_le Equal = refl
gt-not_le Greater = refl

pub some-path : (path : List ℕ) (empty : Bool) → empty ≡ (length path == 0) → empty ≡ false → 0 < length path
some-path path empty e f = grind (arith, nat_tests)
