-- The limits on the numbers of an operation.
use Rattle.std.specs.Prelude.{◌<◌, ◌≤◌, ◌^◌, length}
use Rattle.item_definitions.specs.Shift.{IsWithinLimits}
use Rattle.operation_definitions.specs.Operation.{Place, in_tree, in_cell, Operation, insert, move, attribute, rename, split, merge, marker}

-- a position has at most 65 numbers, each below 2^32
abbrev pub IsPlaceWithin : Place → Type 0
IsPlaceWithin (in_tree position) = IsWithinLimits position
IsPlaceWithin (in_cell number) = Unit {0}

-- so have the positions and paths of an operation, and its count is below 2^32
abbrev pub IsWithin : Operation → Type 0
IsWithin (insert position new) = IsWithinLimits position
IsWithin (move from count to) = IsPlaceWithin from × (count < 2 ^ 32) × IsPlaceWithin to
IsWithin (attribute range key old new) = Unit {0}
IsWithin (rename path old new) = Unit {0}
IsWithin (split position source) = IsWithinLimits position
IsWithin (merge right target cell) = IsWithinLimits right × IsWithinLimits target
IsWithin (marker name old new) = Unit {0}

-- the position of a split has at least two numbers, so that its parent isn't the root
abbrev pub SplitsElement : Operation → Type 0
SplitsElement (split position source) = 2 ≤ length position
SplitsElement operation = Unit {0}
