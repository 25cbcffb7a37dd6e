use Rattle.std.proofs.Common.{refl}
use Rattle.machine_definitions.specs.Texts.{printed_scalar}
use Rattle.print_definitions.proofs.examples.models.Goals as goal

pub returns-clause-plain : goal.returns-clause-plain
unfolding printed_scalar lib.Utf8.encode
returns-clause-plain c = refl

pub returns-clause-caret : goal.returns-clause-caret
unfolding printed_scalar lib.Utf8.encode
returns-clause-caret c = refl
