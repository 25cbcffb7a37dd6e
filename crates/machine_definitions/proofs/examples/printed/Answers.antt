use Rattle.std.proofs.Common.{refl}
use Rattle.std.specs.Fmt.{digits}
use Rattle.machine_definitions.specs.Texts.{printed_scalar}
use Rattle.machine_definitions.proofs.examples.printed.Goals as goal

pub returns-clause-position : goal.returns-clause-position
unfolding digits
returns-clause-position c = refl

pub returns-clause-text : goal.returns-clause-text
unfolding printed_scalar digits
returns-clause-text c = refl
