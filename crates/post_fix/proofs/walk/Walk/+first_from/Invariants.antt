use Rattle.std.proofs.Common.{length}
use Rattle.post_fix.proofs.walk.Walk.+first_from.Given as goal

-- each level takes a number
abbrev pub decreases-first_from : goal.decreases-first_from
decreases-first_from c = length c.start.now
