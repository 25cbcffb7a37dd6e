use Rattle.std.proofs.Common.{◌≡◌}
use Rattle.model_pos.specs.Shifts.{shift_of}
use Rattle.marker_table.proofs.Carrying.{carried_up_to}
use Rattle.marker_table.proofs.table.carry.Given as goal

abbrev pub invariant-loop-index : goal.invariant-loop-index
invariant-loop-index l = l.table.entries ≡ carried_up_to (shift_of l.fn.shift) l.index l.fn.table.entries
