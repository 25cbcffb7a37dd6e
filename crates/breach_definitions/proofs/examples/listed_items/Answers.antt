use Rattle.breach_definitions.proofs.AllButOne.{others_obey}
use Rattle.breach_definitions.proofs.examples.listed_items.Goals as goal

pub returns-clause-others : goal.returns-clause-others
returns-clause-others c = others_obey
