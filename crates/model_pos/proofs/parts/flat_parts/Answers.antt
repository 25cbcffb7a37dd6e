use Rattle.std.proofs.Common.{◌∙◌}
use Rattle.model_pos.proofs.Pushed.{root-step}
use Rattle.model_pos.proofs.parts.flat_parts.Goals as goal

pub returns : goal.returns
returns g c =
    root-step c.new-parts.result.items c.push_between.new.parts.items c.new-root.result c.args.range.now.start c.args.range.now.end
    c.as_slice.result.now c.as_slice-2.result.now
    (g.C.Counts.counts c.args.tree.now) c.new-parts.ensures.items c.new-root.ensures (c.as_slice.ensures.numbers ∙ c.start.ensures.start)
    (c.as_slice-2.ensures.numbers ∙ c.end.ensures) c.in_ok-push_between.ensures
