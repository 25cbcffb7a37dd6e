use Rattle.document_definitions.proofs.Ordering.{keeps_order}
use Rattle.document_definitions.proofs.operations_keep_order.Goals as goal

pub returns : goal.returns
returns c = keeps_order
