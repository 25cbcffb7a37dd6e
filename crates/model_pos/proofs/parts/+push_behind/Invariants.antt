use Rattle.std.proofs.Common.{length}
use Rattle.model_pos.proofs.parts.+push_behind.Given as goal

abbrev pub decreases-push_behind : goal.decreases-push_behind
decreases-push_behind g l = length l.path.now
