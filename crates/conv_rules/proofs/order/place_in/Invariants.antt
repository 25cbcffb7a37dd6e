use Rattle.std.proofs.Common.{length}
use Rattle.conv_rules.proofs.Placing.{GoesAmong}
use Rattle.conv_rules.proofs.order.place_in.Given as goal

abbrev pub invariant-outside : goal.invariant-outside
invariant-outside l = GoesAmong l.next l.layers l.rest

abbrev pub decreases-outside : goal.decreases-outside
decreases-outside l = length l.rest
