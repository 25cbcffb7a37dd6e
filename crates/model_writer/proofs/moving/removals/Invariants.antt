use Rattle.std.proofs.Common.{◌≡◌, take}
use Rattle.edit_definitions.specs.Planned.{removals}
use Rattle.model_writer.specs.Plans.{operations_in}
use Rattle.model_writer.proofs.moving.removals.Given as goal

abbrev pub invariant-loop-index : goal.invariant-loop-index
invariant-loop-index l = removals l.cell (take l.index l.parts) ≡ operations_in l.operations
