use Rattle.std.specs.Prelude.{option_copied}
use Rattle.model_ops.specs.Meant.{operation_of}
use Rattle.model_writer.specs.Plans.{operations_in}
use Rattle.model_writer.proofs.Given.{next_run}
use Rattle.model_writer.proofs.attributes.push_changes.Goals as goal

pub loop-run-preserved : goal.loop-run-preserved
loop-run-preserved c =
    next_run c.args.parent.now c.args.key.now (option_copied c.args.new) c.loop-run.run-index c.args.runs.now c.run-item.result
    (operation_of c.in-Ok.operation) (operations_in c.args.operations.now) (operations_in c.loop-run.operations) (operations_in c.push.new.operations)
    c.loop-run.invariant c.loop-run-test.true c.run-item.is c.in-Ok.ensures c.in_ok-push.ensures.ok
