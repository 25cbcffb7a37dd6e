use Rattle.downcast_definitions.proofs.Inverse.{seen-means}
use Rattle.downcast_definitions.proofs.laws.seen_means_itself.Goals as goal

pub returns : goal.returns
returns c = seen-means
