use Rattle.breach_definitions.proofs.Broken.{first_breach_iff}
use Rattle.breach_definitions.proofs.laws.breach_is_the_first.Goals as goal

pub returns : goal.returns
returns c = first_breach_iff
