use Rattle.fix_definitions.proofs.Rounds.{settles, stays_settled}
use Rattle.fix_definitions.proofs.laws.documents_settle_where_they_come_to_rest.Goals as goal

pub returns-clause-settles : goal.returns-clause-settles
returns-clause-settles c = settles

pub returns-clause-stays : goal.returns-clause-stays
returns-clause-stays c = stays_settled
