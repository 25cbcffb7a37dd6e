-- Document order and a range's items, number by number.
use Rattle.std.proofs.Common.{◌≡◌, ℕ, ◌+◌, Bool, true, false, ◌&&◌, ◌||◌, nat_lt, ◌==◌, cond, List, [], ◌∷◌, ◌++◌, refl, ap, ◌∙◌, arith}
use Rattle.std.proofs.lemmas.Bool.Decides.{nat_tests}
use Rattle.std.specs.Ordering.{is_le, nat_cmp}
use Rattle.std.specs.Cmp.Lexicographic.{slice_cmp}
use Rattle.std.specs.declared.cmp.Ordering.{Ordering}
use Rattle.std.specs.declared.cmp.Ordering.TheVariants.{Less, Equal, Greater}
use Rattle.std.specs.Ordering.{ordering_then}
use Rattle.item_definitions.specs.Position.{not_after, behind}

-- the order by the outcome at the first numbers
is_le-then : (less equal : Bool) (rest : Ordering) → is_le (ordering_then (cond less Less (cond equal Equal Greater)) rest) ≡ (less || (equal && is_le rest))
is_le-then true equal rest = refl
is_le-then false true rest = refl
is_le-then false false rest = refl

pub not_after-cons : (x y : ℕ) (xs ys : List ℕ) → not_after (x ∷ xs) (y ∷ ys) ≡ (nat_lt x y || (x == y && not_after xs ys))
not_after-cons x y xs ys = is_le-then (nat_lt x y) (x == y) (slice_cmp nat_cmp xs ys)

pub not_after-none : (ys : List ℕ) → not_after [] ys ≡ true
not_after-none [] = refl
not_after-none (y ∷ ys) = refl

-- the item at an index of a parent is between two positions
abbrev pub has : List ℕ → List ℕ → List ℕ → ℕ → Bool
has start end parent index = not_after start (parent ++ index ∷ []) && not_after (parent ++ (index + 1) ∷ []) end

pub behind-push : (parent : List ℕ) (index : ℕ) → behind (parent ++ index ∷ []) ≡ parent ++ (index + 1) ∷ []
behind-push [] index = refl
behind-push (step ∷ []) index = refl
behind-push (step ∷ next ∷ parent) index = ap (λ path. step ∷ path) (behind-push (next ∷ parent) index)

-- no item of a list is within one of its items
pub apart : (i k : ℕ) (a b : Bool) → ((nat_lt i k || (i == k && a)) && (nat_lt (k + 1) i || (k + 1 == i && b))) ≡ false
apart i k a b = grind (arith, nat_tests)

-- what is below an item is between two positions in an item only if it is that one
pub inside : (i y : ℕ) (a b : Bool) → ((nat_lt i y || (i == y && a)) && (nat_lt y i || (y == i && b))) ≡ (i == y && (a && b))
inside i y a b = grind (arith, nat_tests)

pub not_after-same : (i : ℕ) (p q : List ℕ) → not_after (i ∷ p) (i ∷ q) ≡ not_after p q
not_after-same i p q = not_after-cons i i p q ∙ step i (not_after p q)
  where
    step : (i : ℕ) (b : Bool) → (nat_lt i i || (i == i && b)) ≡ b
    step i b = grind (arith, nat_tests)

-- positions in one parent are in the order that they have there
pub not_after-parent : (parent p q : List ℕ) → not_after (parent ++ p) (parent ++ q) ≡ not_after p q
not_after-parent [] p q = refl
not_after-parent (step ∷ parent) p q = not_after-same step (parent ++ p) (parent ++ q) ∙ not_after-parent parent p q

pub not_after-itself : (p : List ℕ) → not_after p p ≡ true
not_after-itself [] = refl
not_after-itself (x ∷ p) = not_after-same x p p ∙ not_after-itself p

-- a position is not after itself
pub ruleset itself = (not_after-itself)
