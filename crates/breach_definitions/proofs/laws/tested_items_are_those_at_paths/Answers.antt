use Rattle.breach_definitions.proofs.Placed.{members_are_placed, members_in_order}
use Rattle.breach_definitions.proofs.laws.tested_items_are_those_at_paths.Goals as goal

pub returns-clause-members : goal.returns-clause-members
returns-clause-members c = members_are_placed

pub returns-clause-order : goal.returns-clause-order
returns-clause-order c = members_in_order
