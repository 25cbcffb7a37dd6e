use Rattle.std.specs.Prelude.{refl}
use Rattle.std.specs.Fmt.{digits}
use Rattle.converter_definitions.proofs.examples.facts.Goals as goal

pub returns-clause-second_item : goal.returns-clause-second_item
unfolding digits
returns-clause-second_item c = refl
