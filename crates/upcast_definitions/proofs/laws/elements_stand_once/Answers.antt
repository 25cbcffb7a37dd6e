use Rattle.upcast_definitions.proofs.Same.{rising-up}
use Rattle.upcast_definitions.proofs.laws.elements_stand_once.Goals as goal

pub returns : goal.returns
returns c = rising-up
