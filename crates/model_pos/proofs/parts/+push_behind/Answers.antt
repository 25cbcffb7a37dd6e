use Rattle.std.proofs.Common.{◌∙◌, ap, unwrap_or}
use Rattle.model_pos.proofs.Pushed.{on_ok, behind-step}
use Rattle.model_pos.proofs.parts.+push_behind.Goals as goal

pub returns : goal.returns
returns g t c =
    on_ok c.push_rest.result
    (behind-step c.args.above.now c.args.parts.now.items c.push_behind-2.new.parts.items c.push_rest.new.parts.items c.in-Some.index.now
    c.unwrap_or-count.result c.args.path.now c.in-Some.rest.now c.child.result
    (g.C.Counts.counts c.args.tree.now) c.child.ensures c.in-Some.ensures.cases.0 (c.unwrap_or-count.ensures
    ∙ ap (λ count. unwrap_or count 0) c.child_count.ensures) c.in_ok-push_behind.ensures)
    c.push_rest.ensures
