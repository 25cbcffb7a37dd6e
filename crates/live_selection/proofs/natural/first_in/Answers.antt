use Rattle.std.proofs.Common.{ap, ◌∙◌}
use Rattle.live_selection.specs.Within.{first_from}
use Rattle.live_selection.proofs.Looking.{first_of_range}
use Rattle.live_selection.proofs.natural.first_in.Goals as goal

pub returns : goal.returns
returns c =
    c.first_in_items.ensures ∙ ap (first_from c.of.result 0) c.items.ensures.items ∙ first_of_range c.of.result c.args.tree.now c.args.range.now c.of.ensures
