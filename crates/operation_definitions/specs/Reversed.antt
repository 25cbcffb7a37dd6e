-- What it means that a reversal takes its operation back.
use Rattle.std.specs.Prelude.{◌≡◌, ◌≢◌, ℕ, ◌≤◌, List, [], ◌∷◌, ◌==◌, if◌then◌else◌, Option, Some, None, option_map, Ok}
use Rattle.ck_base.specs.Entries.{IsOrdered}
use Rattle.item_definitions.specs.Item.{Item, Items, character, element, none, more, count_of, depth_of}
use Rattle.item_definitions.specs.Children.{parent_of, item_at}
use Rattle.operation_definitions.specs.Operation.{in_tree, fresh, from_cell, Operation, insert, move, attribute, rename, split, merge, marker}
use Rattle.operation_definitions.specs.After.{after, in_cell_at, like, most_items, most_levels}
use Rattle.operation_definitions.specs.Back.{back}

-- what the reversal of an operation puts away into the given cell: what came in, or the new element of a split; nothing otherwise
abbrev pub put_away : List Item → Operation → Option (List Item)
put_away items (insert position new) = Some new
put_away items (split position (fresh id)) = option_map (λ item. like id item ∷ []) (item_at (parent_of position) items)
put_away items (split position (from_cell cell)) = None
put_away items (move from count to) = None
put_away items (attribute range key old new) = None
put_away items (rename path old new) = None
put_away items (merge right target cell) = None
put_away items (marker name old new) = None

-- what a cell has then: the given one what was put away, and any other cell what it had
abbrev pub cell_then : Option (List Item) → List (List Item) → ℕ → ℕ → List Item
cell_then None cells given number = in_cell_at cells number
cell_then (Some items) cells given number = if number == given then items else in_cell_at cells number

-- the tree keeps to the limits on the number of items and of levels
abbrev pub IsLimited : List Item → Type 0
IsLimited items = (count_of items ≤ most_items) × (depth_of items ≤ most_levels)

abbrev mutual
  -- the keys of an item, and of all that is in it, are in order
  pub IsItemOrdered : Item → Type 0
  IsItemOrdered (character scalar attributes) = IsOrdered attributes
  IsItemOrdered (element id name attributes children) = IsOrdered attributes × IsInnerOrdered children

  -- so are those of all items in an element
  pub IsInnerOrdered : Items → Type 0
  IsInnerOrdered none = Unit {0}
  IsInnerOrdered (more item items) = IsItemOrdered item × IsInnerOrdered items

-- the keys of all items are in order, which makes their attributes finite maps
abbrev pub AreOrdered : List Item → Type 0
AreOrdered [] = Unit {0}
AreOrdered (item ∷ items) = IsItemOrdered item × AreOrdered items

-- the reversal, with this cell, gives the items from before, and the cells are those from before too, but that the cell has what was put
-- away; a cell that is empty is as one that isn't there
pub record IsTakenBack (items : List Item) (cells : List (List Item)) (operation : Operation) (made : List Item × List (List Item)) (cell : ℕ) : Type 0 where
  -- the cells after the reversal
  pub then_cells : List (List Item)
  -- the reversal gives the items from before
  pub reversed : after made.0 made.1 (back operation cell) ≡ Ok (items, then_cells)
  -- each cell has what it had, but for the one of what was put away
  pub kept : (number : ℕ) → in_cell_at then_cells number ≡ cell_then (put_away items operation) cells cell number

-- the places in the tree that a move names are positions, which aren't empty
abbrev pub HasPlaces : Operation → Type 0
HasPlaces (move (in_tree from) count (in_tree to)) = (from ≢ []) × (to ≢ [])
HasPlaces operation = Unit {0}
