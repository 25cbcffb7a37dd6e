use Rattle.std.proofs.Common.{length}
use Rattle.model_tree.proofs.items.Items.+replaced_at.Given as goal

abbrev pub decreases-replaced_at : goal.decreases-replaced_at
decreases-replaced_at l = length l.path.now
