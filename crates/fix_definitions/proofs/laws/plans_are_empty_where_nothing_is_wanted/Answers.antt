use Rattle.fix_definitions.proofs.Plans.{nothing_wanted}
use Rattle.fix_definitions.proofs.laws.plans_are_empty_where_nothing_is_wanted.Goals as goal

pub returns : goal.returns
returns c = nothing_wanted
