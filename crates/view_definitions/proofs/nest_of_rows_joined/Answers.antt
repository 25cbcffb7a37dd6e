use Rattle.view_definitions.proofs.Joins.{nest-append}
use Rattle.view_definitions.proofs.nest_of_rows_joined.Goals as goal

pub returns : goal.returns
returns c = nest-append
