use Rattle.upcast_definitions.proofs.Runs.{group-rule}
use Rattle.upcast_definitions.proofs.laws.longest_runs_are_elements.Goals as goal

pub returns : goal.returns
returns c = group-rule
