use Rattle.model_pos.proofs.Pushed.{on_ok, before-step}
use Rattle.model_pos.proofs.parts.+push_before.Goals as goal

pub returns : goal.returns
returns t c =
    on_ok c.push_before-2.result
    (before-step c.args.above.now c.args.parts.now.items c.push_run.new.parts.items c.push_before-2.new.parts.items c.in-Some.index.now c.args.path.now
    c.in-Some.rest.now c.child.result c.child.ensures c.in-Some.ensures.cases.0 c.in_ok-push_run.ensures)
    c.push_before-2.ensures
