use Rattle.std.proofs.Common.{length}
use Rattle.down_whole.proofs.row.+in_layers.Given as goal

abbrev pub decreases-in_layers : goal.decreases-in_layers
decreases-in_layers l = length l.layers.now
