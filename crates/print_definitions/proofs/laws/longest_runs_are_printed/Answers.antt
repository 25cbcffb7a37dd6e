use Rattle.print_definitions.proofs.Runs.{some_runs, printed_runs}
use Rattle.print_definitions.proofs.laws.longest_runs_are_printed.Goals as goal

pub returns-clause-runs : goal.returns-clause-runs
returns-clause-runs c = some_runs

pub returns-clause-printed : goal.returns-clause-printed
returns-clause-printed c = printed_runs
