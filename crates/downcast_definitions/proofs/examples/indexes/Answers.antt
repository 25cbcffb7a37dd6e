use Rattle.std.specs.Prelude.{refl}
use Rattle.std.specs.Fmt.{digits}
use Rattle.downcast_definitions.proofs.examples.indexes.Goals as goal

pub returns : goal.returns
unfolding digits
returns c = refl
