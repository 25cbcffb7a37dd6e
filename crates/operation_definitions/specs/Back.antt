-- The reversal of an operation.
use Rattle.std.specs.Prelude.{ℕ}
use Rattle.item_definitions.specs.Children.{parent_of}
use Rattle.item_definitions.specs.Position.{behind}
use Rattle.item_definitions.specs.Shift.{to_next, carry_insert, carry_remove}
use Rattle.std.specs.Prelude.{length}
use Rattle.operation_definitions.specs.Operation.{Place, in_tree, in_cell, Source, fresh, from_cell, Operation, insert, move, attribute, rename, split, merge}
use Rattle.operation_definitions.specs.Operation.{marker}

-- where the items of a move stand then: at the target, as the taking out leaves that
abbrev pub moved_to : Place → ℕ → Place → Place
moved_to (in_tree from) count (in_tree to) = in_tree (carry_remove from count to)
moved_to from count to = to

-- where they have to go back: to the old start, as the putting in leaves that
abbrev pub moved_from : Place → ℕ → Place → Place
moved_from (in_tree from) count (in_tree to) = in_tree (carry_insert (carry_remove from count to) count to_next from)
moved_from from count to = from

-- the cell that a merge back fills: the one that the second element came from, or the given one
abbrev pub source_cell : Source → ℕ → ℕ
source_cell (fresh id) number = number
source_cell (from_cell cell) number = cell

-- the operation that takes another one back, with a cell for what it may have to put away
abbrev pub back : Operation → ℕ → Operation
back (insert position new) number = move (in_tree position) (length new) (in_cell number)
back (move from count to) number = move (moved_to from count to) count (moved_from from count to)
back (attribute range key old new) number = attribute range key new old
back (rename path old new) number = rename path new old
back (split position source) number = merge (behind (parent_of position)) position (source_cell source number)
back (merge right target cell) number = split target (from_cell cell)
back (marker name old new) number = marker name new old
