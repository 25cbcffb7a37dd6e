use Rattle.view_definitions.proofs.Rule.{nest-rule}
use Rattle.view_definitions.proofs.nest_keeps_the_rule.Goals as goal

pub returns : goal.returns
returns c = nest-rule
