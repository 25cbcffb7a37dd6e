use Rattle.command_definitions.proofs.Overridden.{given-back}
use Rattle.command_definitions.proofs.laws.two_toggles_at_a_caret_give_back.Goals as goal

pub returns : goal.returns
returns c = given-back
