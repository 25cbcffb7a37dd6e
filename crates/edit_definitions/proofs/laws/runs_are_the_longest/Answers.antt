use Rattle.edit_definitions.proofs.Longest.{longest, told-exactly}
use Rattle.edit_definitions.proofs.laws.runs_are_the_longest.Goals as goal

pub returns-clause-longest : goal.returns-clause-longest
returns-clause-longest c = longest

pub returns-clause-exact : goal.returns-clause-exact
returns-clause-exact c = told-exactly
