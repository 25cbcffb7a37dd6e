use Rattle.edit_definitions.proofs.Alone.{reached_alone}
use Rattle.edit_definitions.proofs.laws.attribute_edits_reach_the_outermost.Goals as goal

pub returns : goal.returns
returns c = reached_alone
