use Rattle.script_definitions.proofs.Written.{reads_back, all_read_back}
use Rattle.script_definitions.proofs.laws.edits_read_back.Goals as goal

pub returns-clause-edit : goal.returns-clause-edit
returns-clause-edit c = reads_back

pub returns-clause-edits : goal.returns-clause-edits
returns-clause-edits c = all_read_back
