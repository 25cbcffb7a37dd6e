use Rattle.upcast_definitions.proofs.Same.{built-up}
use Rattle.upcast_definitions.proofs.laws.building_gives_the_same.Goals as goal

pub returns : goal.returns
returns c = built-up
