use Rattle.edit_definitions.proofs.Reaching.{value_given}
use Rattle.edit_definitions.proofs.Rest.{rest_as_before}
use Rattle.edit_definitions.proofs.laws.attribute_edits_give_the_value.Goals as goal

pub returns-clause-value : goal.returns-clause-value
returns-clause-value c = value_given

pub returns-clause-rest : goal.returns-clause-rest
returns-clause-rest c = rest_as_before
