use Rattle.std.proofs.Common.{length}
use Rattle.view_tree.proofs.kind.+attrs_cmp.Given as goal

abbrev pub decreases-attrs_cmp : goal.decreases-attrs_cmp
decreases-attrs_cmp l = length l.entries.now
