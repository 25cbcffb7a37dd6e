use Rattle.breach_definitions.proofs.Broken.{enough_listed}
use Rattle.breach_definitions.proofs.laws.listed_items_suffice.Goals as goal

pub returns : goal.returns
returns c = enough_listed
