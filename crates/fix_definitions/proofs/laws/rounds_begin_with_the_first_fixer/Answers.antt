use Rattle.fix_definitions.proofs.Rounds.{first_plans}
use Rattle.fix_definitions.proofs.laws.rounds_begin_with_the_first_fixer.Goals as goal

pub returns : goal.returns
returns c = first_plans
