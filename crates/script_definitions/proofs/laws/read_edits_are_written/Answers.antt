use Rattle.script_definitions.proofs.Written.{reads_back}
use Rattle.script_definitions.proofs.Kept.{edit_kept}
use Rattle.script_definitions.proofs.laws.read_edits_are_written.Goals as goal

pub returns-clause-kept : goal.returns-clause-kept
returns-clause-kept c = edit_kept

pub returns-clause-again : goal.returns-clause-again
returns-clause-again c = λ path d edit h e. reads_back path edit (edit_kept path d edit h e)
