use Rattle.std.proofs.Common.{length}
use Rattle.view_tree.proofs.kind.+same_attrs.Given as goal

abbrev pub decreases-same_attrs : goal.decreases-same_attrs
decreases-same_attrs l = length l.entries.now
