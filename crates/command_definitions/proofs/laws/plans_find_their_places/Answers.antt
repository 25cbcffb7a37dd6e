use Rattle.command_definitions.proofs.Plans.{plans-find}
use Rattle.command_definitions.proofs.laws.plans_find_their_places.Goals as goal

pub returns : goal.returns
returns c = plans-find
