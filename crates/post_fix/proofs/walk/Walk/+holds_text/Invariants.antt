use Rattle.std.proofs.Common.{length}
use Rattle.post_fix.proofs.walk.Walk.+holds_text.Given as goal

-- each level takes a number
abbrev pub decreases-holds_text : goal.decreases-holds_text
decreases-holds_text c = length c.position.now
