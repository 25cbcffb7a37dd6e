use Rattle.std.proofs.Common.{length}
use Rattle.view_tree.proofs.lists.+find.Given as goal

abbrev pub decreases-find : goal.decreases-find
decreases-find l = length l.path.now
