use Rattle.document_definitions.proofs.Limits.{keeps_limits, carried_within}
use Rattle.document_definitions.proofs.positions_keep_to_the_limits.Goals as goal

pub returns-clause-there : goal.returns-clause-there
returns-clause-there c = keeps_limits

pub returns-clause-carried : goal.returns-clause-carried
returns-clause-carried c = carried_within
