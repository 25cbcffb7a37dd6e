use Rattle.command_definitions.proofs.Returning.{takes-back}
use Rattle.command_definitions.proofs.laws.deletion_takes_enter_back.Goals as goal

pub returns : goal.returns
returns c = takes-back
