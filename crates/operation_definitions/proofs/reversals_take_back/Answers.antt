use Rattle.operation_definitions.proofs.Reversal.{reversal}
use Rattle.operation_definitions.proofs.reversals_take_back.Goals as goal

pub returns : goal.returns
returns c = reversal
