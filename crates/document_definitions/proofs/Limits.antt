-- Positions in a tree that keeps to its limits keep to theirs.
use Rattle.std.proofs.Common.{◌≡◌, ℕ, zero, suc, ◌+◌, ◌<◌, ◌≤◌, true, nat_le, List, [], ◌∷◌, length, Some, All, Ok, ◌∙◌, subst, arith}
use Rattle.std.proofs.lemmas.Bool.Decides.{nat_tests}
use Rattle.std.proofs.lemmas.List.Elements.{All-cons}
use Rattle.item_definitions.specs.Item.{Item, count_of, depth_of}
use Rattle.item_definitions.specs.Children.{child_count}
use Rattle.item_definitions.specs.Position.{Range, IsIn, IsRange}
use Rattle.item_definitions.specs.Shift.{IsWithinLimits, carried_ends}
use Rattle.operation_definitions.specs.Operation.{Operation, too_large, too_deep}
use Rattle.item_definitions.proofs.Sizes.{within-item, length-count}
use Rattle.operation_definitions.specs.After.{◌>>=◌, check, after, effect, limited, most_items, most_levels}
use Rattle.operation_definitions.specs.Reversed.{IsLimited, HasPlaces}
use Rattle.operation_definitions.proofs.Steps.{step-ok, check-true}
use Rattle.operation_definitions.proofs.Simple.{State}
use Rattle.document_definitions.specs.Document.{shift_of}
use Rattle.document_definitions.proofs.Inside.{Inside, in_at, inside}
use Rattle.document_definitions.proofs.Ranges.{carried-ends}

-- what is in an element of a list is smaller than the list
within-list : (xs : List Item) (i : ℕ) (items : List Item) → in_at xs i ≡ Some items → (depth_of items + 1 ≤ depth_of xs)
    × (count_of items + 1 ≤ count_of xs) × (i < length xs)
within-list [] i items e = absurd cc
within-list (x ∷ xs) zero items e = (let w = within-item x items e in (omega (arith, w.0), omega (arith, w.1), omega arith))
within-list (x ∷ xs) (suc i) items e = (let w = within-list xs i items e in (omega (arith, w.0), omega (arith, w.1), omega (arith, w.2)))

-- the numbers of a position, and how many there are
bounds : (xs : List Item) (position : List ℕ) → Inside xs position → (length position ≤ depth_of xs + 1) × All (λ n. n ≤ count_of xs) position
bounds xs [] h = absurd (h tt)
bounds xs (o ∷ []) h =
    let m = length-count xs in
    (omega arith, All-cons (λ n. n ≤ count_of xs) o [] (omega (arith, h, m)) (λ k d less. absurd (omega arith)))
bounds xs (i ∷ next ∷ path) h =
    let w = within-list xs i h.0 h.1 in
    let rest = bounds h.0 (next ∷ path) h.2 in
    let m = length-count xs in (
      omega (arith, w.0, rest.0),
      All-cons (λ n. n ≤ count_of xs) i (next ∷ path) (omega (arith, w.2, m)) (λ k d less. (let r = rest.1 k d less in omega (arith, r, w.1))),
    )

pub within-limits : (items : List Item) (position : List ℕ) → IsLimited items → Inside items position → IsWithinLimits position
within-limits items position limits h =
    let b = bounds items position h in
    (omega (arith, b.0, limits.1), λ k d less. (let r = b.1 k d less in omega (arith, r, limits.0)))

pub keeps_limits : (items : List Item) (position : List ℕ) → IsLimited items → IsIn items position → IsWithinLimits position
keeps_limits items position limits h = within-limits items position limits (inside items position h)

-- what an operation makes keeps to the limits
pub after-limited : (items : List Item) (cells : List (List Item)) (operation : Operation) (made : State) → after items cells operation ≡ Ok made
    → IsLimited made.0
after-limited items cells operation made e =
    let a = step-ok (effect items cells operation) limited made e in
    let b = step-ok (check (nat_le (count_of a.0.0) most_items) (too_large (count_of a.0.0)))
    (λ _. check (nat_le (depth_of a.0.0) most_levels) (too_deep (depth_of a.0.0)) >>= (λ _. Ok a.0)) made a.2 in
    let few = check-true (nat_le (count_of a.0.0) most_items) (too_large (count_of a.0.0)) b.0 b.1 in
    let c = step-ok (check (nat_le (depth_of a.0.0) most_levels) (too_deep (depth_of a.0.0))) (λ _. Ok a.0) made b.2 in
    let flat = check-true (nat_le (depth_of a.0.0) most_levels) (too_deep (depth_of a.0.0)) c.0 c.1 in
    let same : a.0 ≡ made = cc in
    subst (λ (m : State). IsLimited m.0) same (yes (count_of a.0.0) most_items few, yes (depth_of a.0.0) most_levels flat)
  where
    yes : (a b : ℕ) → nat_le a b ≡ true → a ≤ b
    yes a b e = grind (arith, nat_tests)

-- so the ends of a range in the tree are carried to positions within the limits
pub carried_within : (items : List Item) (cells : List (List Item)) (operation : Operation) (made : State) (range : Range) → HasPlaces operation
    → after items cells operation ≡ Ok made
    → IsRange (child_count items) range → IsWithinLimits (carried_ends (shift_of operation) range).start
    × IsWithinLimits (carried_ends (shift_of operation) range).end
carried_within items cells operation made range places e h =
    let limits = after-limited items cells operation made e in
    let ends = carried-ends items cells operation made range places e h in (
      within-limits made.0 (carried_ends (shift_of operation) range).start limits ends.0,
      within-limits made.0 (carried_ends (shift_of operation) range).end limits ends.1,
    )
