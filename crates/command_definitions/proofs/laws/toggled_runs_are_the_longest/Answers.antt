use Rattle.command_definitions.proofs.Longest.{runs-longest}
use Rattle.command_definitions.proofs.laws.toggled_runs_are_the_longest.Goals as goal

pub returns : goal.returns
returns c = runs-longest
