-- Paths: a list of offsets, each the index of an item in its parent's list. The empty path leads to the root.
use Rattle.std.specs.Prelude.{ℕ, ◌+◌, List, [], ◌∷◌, ◌++◌, length, Option, Some, None, option_and_then, option_map, slice_get, slice_set}
use Rattle.std.specs.List.{enumerate_from, flat_map}
use Rattle.item_definitions.specs.Item.{Item, Items, character, element, none, more, inner, with_inner}

-- all numbers but the last
abbrev pub parent_of : List ℕ → List ℕ
parent_of [] = []
parent_of (offset ∷ []) = []
parent_of (index ∷ next ∷ path) = index ∷ parent_of (next ∷ path)

-- the last number
abbrev pub offset_of : List ℕ → ℕ
offset_of [] = 0
offset_of (offset ∷ []) = offset
offset_of (index ∷ next ∷ path) = offset_of (next ∷ path)

-- the items of the element at a path: None where no element stands there
abbrev pub children_at : List ℕ → List Item → Option (List Item)
children_at [] items = Some items
children_at (index ∷ path) items = option_and_then (λ item. option_and_then (children_at path) (inner item)) (slice_get items index)

-- the item at a path: None where none stands there, and for the empty path
abbrev pub item_at : List ℕ → List Item → Option Item
item_at [] items = None
item_at (index ∷ []) items = slice_get items index
item_at (index ∷ next ∷ path) items =
    option_and_then (λ item. option_and_then (item_at (next ∷ path)) (inner item)) (slice_get items index)

-- how many items the element at a path has: None where no element stands there
abbrev pub child_count : List Item → List ℕ → Option ℕ
child_count items path = option_map length (children_at path items)

-- a change of one list of items, which may fail, and gives something beside
abbrev pub Change : Type 0 → Type 0
Change R = List Item → Option (List Item × R)

-- the change made to what is in an item
abbrev pub in_item : {R : Type 0} → Change R → Item → Option (Item × R)
in_item change item = option_and_then (λ items. option_map (λ made. (with_inner made.0 item, made.1)) (change items)) (inner item)

-- a change of one item, made to the item at an index
abbrev pub at_index : {R : Type 0} → ℕ → (Item → Option (Item × R)) → Change R
at_index index change items = option_and_then (λ item. option_map (λ made. (slice_set items index made.0, made.1)) (change item)) (slice_get items index)

-- the change made to the items of the element at a path
abbrev pub at : {R : Type 0} → List ℕ → Change R → Change R
at [] change items = change items
at (index ∷ path) change items = at_index index (in_item (at path change)) items

abbrev mutual
  -- an item and all that is in it with their paths, in document order: an element stands before its items
  pub walk_item : List ℕ → Item → List (List ℕ × Item)
  walk_item path (character scalar attributes) = (path, character scalar attributes) ∷ []
  walk_item path (element id name attributes children) = (path, element id name attributes children) ∷ walk_inner path 0 children

  -- the same of the items in an element: the path is that of the element, and the first of them has this index
  pub walk_inner : List ℕ → ℕ → Items → List (List ℕ × Item)
  walk_inner path index none = []
  walk_inner path index (more item items) = walk_item (path ++ index ∷ []) item ++ walk_inner path (index + 1) items

-- all items of a list with their paths, in document order
abbrev pub walk : List Item → List (List ℕ × Item)
walk items = flat_map (λ entry. walk_item (entry.0 ∷ []) entry.1) (enumerate_from 0 items)
