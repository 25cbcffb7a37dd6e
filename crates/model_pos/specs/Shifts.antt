-- The code's sticks and shifts as those of the definitions.
use Rattle.item_definitions.specs.Shift as meant
use Rattle.item_definitions.specs.Shift.{stay, insert, remove, move, split, merge, to_next, to_previous}
use Rattle.model_pos.specs.declared.shifts.Stick.{Stick}
use Rattle.model_pos.specs.declared.shifts.Stick.TheVariants.{ToNext, ToPrevious}
use Rattle.model_pos.specs.declared.shifts.Shift.{Shift}
use Rattle.model_pos.specs.declared.shifts.Shift.TheVariants.{Stay, Insert, Remove, Move, Split, Merge}

-- the code's stick as that of the definitions
abbrev pub stick_of : Stick → meant.Stick
stick_of ToNext = to_next
stick_of ToPrevious = to_previous

-- the code's shift as that of the definitions
abbrev pub shift_of : Shift → meant.Shift
shift_of Stay = stay
shift_of (Insert at count) = insert at count
shift_of (Remove at count) = remove at count
shift_of (Move from count to) = move from count to
shift_of (Split at) = split at
shift_of (Merge right target) = merge right target
