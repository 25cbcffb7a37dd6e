use Rattle.std.proofs.Common.{refl}
use Rattle.std.specs.Fmt.{digits}
use Rattle.machine_definitions.specs.Refusals.{edit_fault_text, rule_text, refusal_text}
use Rattle.machine_definitions.proofs.examples.refusals.Goals as goal

pub returns-clause-position : goal.returns-clause-position
unfolding edit_fault_text refusal_text digits
returns-clause-position c = refl

pub returns-clause-schema : goal.returns-clause-schema
unfolding rule_text refusal_text digits
returns-clause-schema c = refl
