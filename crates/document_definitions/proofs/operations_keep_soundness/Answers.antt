use Rattle.document_definitions.proofs.Soundness.{keeps_soundness}
use Rattle.document_definitions.proofs.operations_keep_soundness.Goals as goal

pub returns : goal.returns
returns c = keeps_soundness
