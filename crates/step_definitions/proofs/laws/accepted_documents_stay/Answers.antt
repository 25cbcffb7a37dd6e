use Rattle.step_definitions.proofs.Accepted.{stays_accepted}
use Rattle.step_definitions.proofs.laws.accepted_documents_stay.Goals as goal

pub returns : goal.returns
returns c = stays_accepted
