use Rattle.downcast_definitions.proofs.Parents.{in-document}
use Rattle.downcast_definitions.proofs.laws.seen_in_its_parent.Goals as goal

pub returns : goal.returns
returns c = in-document
