use Rattle.std.proofs.Common.{length}
use Rattle.undo_stack.proofs.Moments.{IsPartBack}
use Rattle.undo_stack.proofs.replay.take_back.Given as goal

-- the records that are left lead back to where all lead
abbrev pub invariant-records : goal.invariant-records
invariant-records l = IsPartBack l.records l.left l.initial.document l.document

abbrev pub decreases-records : goal.decreases-records
decreases-records l = length l.left
