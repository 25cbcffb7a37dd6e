use Rattle.fix_definitions.proofs.Rounds.{reads_no_cells}
use Rattle.fix_definitions.proofs.laws.settling_reads_no_cells.Goals as goal

pub returns : goal.returns
returns c = reads_no_cells
