use Rattle.fix_definitions.proofs.Found.{members, in_order}
use Rattle.fix_definitions.proofs.laws.places_are_those_of_the_document.Goals as goal

pub returns-clause-members : goal.returns-clause-members
returns-clause-members c = members

pub returns-clause-order : goal.returns-clause-order
returns-clause-order c = in_order
