use Rattle.undo_stack.proofs.Holding.{selected_back}
use Rattle.undo_stack.proofs.laws.records_lead_back.Goals as goal

pub returns-clause-selected : goal.returns-clause-selected
returns-clause-selected c = selected_back
