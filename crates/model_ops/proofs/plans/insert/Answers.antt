use Rattle.model_ops.proofs.Planned.{insert_plans}
use Rattle.model_ops.proofs.plans.insert.Goals as goal

pub returns : goal.returns
returns c = λ cells. insert_plans c.split-offset.result.0.now c.split-offset.result.1 c.args.at.now c.args.new.now c.args.items.now cells c.kept.result
    c.split-offset.ensures.parent c.split-offset.ensures.offset (c.kept.ensures _ cells c.put_in_at.ensures)
