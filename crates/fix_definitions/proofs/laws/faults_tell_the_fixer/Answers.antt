use Rattle.fix_definitions.proofs.Rounds.{restless, refused, told}
use Rattle.fix_definitions.proofs.laws.faults_tell_the_fixer.Goals as goal

pub returns-clause-not_settled : goal.returns-clause-not_settled
returns-clause-not_settled c = restless

pub returns-clause-refused : goal.returns-clause-refused
returns-clause-refused c = refused

pub returns-clause-told : goal.returns-clause-told
returns-clause-told c = told
