use Rattle.std.proofs.Common.{◌+◌, ◌*◌, length}
use Rattle.pos_mapper.proofs.seeking.+shows.Given as goal

abbrev pub decreases-push_shown : goal.decreases-push_shown
decreases-push_shown l = 2 * length l.numbers.now

abbrev pub decreases-push_in_item : goal.decreases-push_in_item
decreases-push_in_item l = 2 * length l.rest.now + 1
