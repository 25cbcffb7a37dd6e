use Rattle.model_ops.specs.Meant.{operation_of}
use Rattle.model_writer.specs.Plans.{operations_in}
use Rattle.model_writer.proofs.Removed.{next_removal}
use Rattle.model_writer.proofs.moving.removals.Goals as goal

pub loop-index-preserved : goal.loop-index-preserved
loop-index-preserved c =
    next_removal c.args.cell c.loop-index.index c.in-Some.number c.args.parts.now c.index-parts-index.result (operation_of c.removal.result)
    (operations_in c.loop-index.operations) (operations_in c.push.new.operations)
    c.loop-index.invariant c.loop-index-test.true c.index-parts-index.is c.in-Some.ensures c.removal.ensures c.in_ok-push.ensures.ok
