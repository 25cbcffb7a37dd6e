use Rattle.std.proofs.Common.{length}
use Rattle.post_fix.proofs.walk.Walk.+last_before.Given as goal

-- each level takes a number
abbrev pub decreases-last_before : goal.decreases-last_before
decreases-last_before c = length c.start.now
