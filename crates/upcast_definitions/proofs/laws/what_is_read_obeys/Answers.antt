use Rattle.upcast_definitions.proofs.Obeying.{up-obeys}
use Rattle.upcast_definitions.proofs.laws.what_is_read_obeys.Goals as goal

pub returns : goal.returns
returns c = up-obeys
