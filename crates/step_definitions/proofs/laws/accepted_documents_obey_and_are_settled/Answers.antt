use Rattle.step_definitions.proofs.Accepted.{step_accepted, opened_accepted}
use Rattle.step_definitions.proofs.laws.accepted_documents_obey_and_are_settled.Goals as goal

pub returns : goal.returns
returns c = record { changed = step_accepted; opened = opened_accepted }
