use Rattle.breach_definitions.proofs.Broken.{obeys_iff}
use Rattle.breach_definitions.proofs.laws.documents_without_a_breach_obey.Goals as goal

pub returns : goal.returns
returns c = obeys_iff
