use Rattle.std.proofs.Common.{length}
use Rattle.model_pos.proofs.parts.+push_between.Given as goal

abbrev pub decreases-push_between : goal.decreases-push_between
decreases-push_between g l = length l.start.now
