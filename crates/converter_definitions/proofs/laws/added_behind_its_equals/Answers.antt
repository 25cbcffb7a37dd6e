use Rattle.converter_definitions.proofs.Priority.{added-behind, added-by-priority}
use Rattle.converter_definitions.proofs.laws.added_behind_its_equals.Goals as goal

pub returns-clause-place : goal.returns-clause-place
returns-clause-place c = added-behind

pub returns-clause-order : goal.returns-clause-order
returns-clause-order c = added-by-priority
