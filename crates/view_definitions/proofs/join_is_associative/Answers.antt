use Rattle.view_definitions.proofs.Joins.{join-assoc, join-none}
use Rattle.view_definitions.proofs.join_is_associative.Goals as goal

pub returns : goal.returns
returns c = record { steps = join-assoc; none_behind = join-none }
