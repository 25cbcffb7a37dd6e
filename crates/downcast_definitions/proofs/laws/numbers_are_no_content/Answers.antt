use Rattle.downcast_definitions.proofs.Numbering.{numbers-dropped}
use Rattle.downcast_definitions.proofs.laws.numbers_are_no_content.Goals as goal

pub returns : goal.returns
returns c = numbers-dropped
