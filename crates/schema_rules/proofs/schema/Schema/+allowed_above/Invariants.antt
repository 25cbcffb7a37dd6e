use Rattle.std.proofs.Common.{length}
use Rattle.schema_rules.proofs.schema.Schema.+allowed_above.Given as goal

-- one ancestor less each time
abbrev pub decreases-allowed_above : goal.decreases-allowed_above
decreases-allowed_above l = length l.ancestors.now
