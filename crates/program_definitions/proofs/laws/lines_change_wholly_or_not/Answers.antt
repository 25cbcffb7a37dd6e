use Rattle.program_definitions.proofs.Lines.{follows}
use Rattle.program_definitions.proofs.laws.lines_change_wholly_or_not.Goals as goal

pub returns : goal.returns
returns c = record {
  changes = λ machine number line. (follows machine number line).changes;
  config = λ machine number line. (follows machine number line).config;
}
