use Rattle.std.proofs.Common.{◌+◌, ◌*◌, length}
use Rattle.view_tree.proofs.lists.+counts.Given as goal

abbrev pub decreases-count_change : goal.decreases-count_change
decreases-count_change l = 2 * length l.path.now

abbrev pub decreases-count_inside : goal.decreases-count_inside
decreases-count_inside l = 2 * length l.path.now + 1
