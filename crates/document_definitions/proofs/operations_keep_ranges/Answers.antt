use Rattle.document_definitions.proofs.Ranges.{keeps_ranges}
use Rattle.document_definitions.proofs.operations_keep_ranges.Goals as goal

pub returns : goal.returns
returns c = keeps_ranges
