use Rattle.model_pos.proofs.Pushed.{on_ok, pieces}
use Rattle.model_pos.proofs.parts.push_apart.Goals as goal

pub returns : goal.returns
returns g c =
    on_ok c.push_before-2.result
    (pieces c.args.above.now c.args.parts.now.items c.push_behind-2.new.parts.items c.push_rest.new.parts.items c.args.index c.args.last c.args.path.now
    c.args.rest.now c.child.result c.child-3.result
    (g.C.Counts.counts c.args.tree.now) c.push_before-2.new.parts.items c.child.ensures c.child-3.ensures c.in_ok-push_behind.ensures c.in_ok-push_rest.ensures)
    c.push_before-2.ensures
