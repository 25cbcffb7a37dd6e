use Rattle.std.proofs.Common.{length}
use Rattle.ck_base.proofs.attributes.+same_values.Given as goal

abbrev pub decreases-same_values : goal.decreases-same_values
decreases-same_values l = length l.entries.now
