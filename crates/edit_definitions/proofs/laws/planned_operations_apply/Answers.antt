use Rattle.edit_definitions.proofs.Planning.{planned_apply, told}
use Rattle.edit_definitions.proofs.laws.planned_operations_apply.Goals as goal

pub returns-clause-apply : goal.returns-clause-apply
returns-clause-apply c = planned_apply

pub returns-clause-told : goal.returns-clause-told
returns-clause-told c = told
