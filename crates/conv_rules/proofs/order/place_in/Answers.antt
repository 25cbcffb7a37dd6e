use Rattle.std.proofs.Common.{sym, ◌∙◌}
use Rattle.conv_rules.proofs.Placing.{among_front}
use Rattle.conv_rules.proofs.order.place_in.Goals as goal

pub outside-preserved : goal.outside-preserved
outside-preserved c =
    among_front c.args.next.now c.in-Some.last.now c.in-Some.front.now c.args.layers.now c.outside.rest.now c.outside.invariant c.in-Some.ensures.cases.0
    (sym c.in_ok-compare.ensures ∙ c.in-Greater.is)
