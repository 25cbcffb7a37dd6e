-- How many items a list has, and how deep they are, against those of the items in it.
use Rattle.std.proofs.Common.{◌≡◌, ℕ, ◌+◌, ◌≤◌, max, List, [], ◌∷◌, length, Some, refl, ap, ◌∙◌, arith}
use Rattle.item_definitions.specs.Item.{Item, Items, character, element, none, more, list_of, inner, item_count, inner_count, count_of, item_depth, inner_depth}
use Rattle.item_definitions.specs.Item.{depth_of}

pub count-list : (children : Items) → inner_count children ≡ count_of (list_of children)
count-list none = refl
count-list (more item items) = ap (λ n. item_count item + n) (count-list items)

pub depth-list : (children : Items) → inner_depth children ≡ depth_of (list_of children)
depth-list none = refl
depth-list (more item items) = ap (max (item_depth item)) (depth-list items)

-- an element is larger than what is in it
pub within-item : (item : Item) (items : List Item) → inner item ≡ Some items → (depth_of items + 1 ≤ item_depth item) × (count_of items + 1 ≤ item_count item)
within-item (character scalar attributes) items e = absurd cc
within-item (element id name attributes children) items e =
    let same : list_of children ≡ items = cc in
    let depth : inner_depth children ≡ depth_of items = depth-list children ∙ ap depth_of same in
    let count : inner_count children ≡ count_of items = count-list children ∙ ap count_of same in
    (omega (arith, depth), omega (arith, count))

item-one : (item : Item) → 1 ≤ item_count item
item-one (character scalar attributes) = omega arith
item-one (element id name attributes children) = omega arith

-- a list has no more items of its own than it has at all depths
pub length-count : (items : List Item) → length items ≤ count_of items
length-count [] = omega arith
length-count (item ∷ items) = (let a = item-one item in let b = length-count items in omega (arith, a, b))
