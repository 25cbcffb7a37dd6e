use Rattle.std.proofs.Common.{length}
use Rattle.down_whole.proofs.between.+between.Given as goal

abbrev pub decreases-between : goal.decreases-between
decreases-between l = length l.layers.now
