-- The items that an operation leaves in the tree, and where they stand then.
use Rattle.std.specs.Prelude.{ℕ, ◌+◌, List, [], ◌∷◌, ◌++◌, Bool, false, nat_eq}
use Rattle.std.specs.Cmp.Lexicographic.{pointwise}
use Rattle.item_definitions.specs.Item.{Item, character, element, with_inner, with_attributes}
use Rattle.item_definitions.specs.Children.{parent_of, offset_of}
use Rattle.item_definitions.specs.Position.{Range, between, behind, holds}
use Rattle.item_definitions.specs.Shift.{Shift, carry_range}
use Rattle.operation_definitions.specs.Operation.{in_tree, in_cell, Operation, attribute, move, rename, merge}

-- Where the item at a path goes when the tree changes: to the start of where its range goes, which is the range from the position before it
-- to the one behind it.
abbrev pub item_carried : Shift → List ℕ → List ℕ
item_carried shift path = (carry_range shift (between path (behind path))).start

-- the range of `count` items behind a position
abbrev pub run_range : List ℕ → ℕ → Range
run_range from count = between (parent_of from ++ offset_of from ∷ []) (parent_of from ++ (offset_of from + count) ∷ [])

-- an operation takes the item at a path out of the tree: it is in a run that goes into a cell, or it is the element that is merged into
-- the one before it
abbrev pub takes_out : Operation → List ℕ → Bool
takes_out (move (in_tree from) count (in_cell number)) path = holds (run_range from count) path
takes_out (merge right target cell) path = pointwise nat_eq path right
takes_out operation path = false

-- the same element without a name; a character stays
abbrev pub without_name : Item → Item
without_name (character scalar attributes) = character scalar attributes
without_name (element id name attributes children) = element id [] attributes children

-- What an operation leaves as it is of each item that stays: its code, or its id and its name, and its attributes. A change of attributes
-- leaves all but these, and a renaming all but the name. The items in an element are items of their own.
abbrev pub left_by : Operation → Item → Item
left_by (attribute range key old new) item = with_attributes [] (with_inner [] item)
left_by (rename path old new) item = without_name (with_inner [] item)
left_by operation item = with_inner [] item
