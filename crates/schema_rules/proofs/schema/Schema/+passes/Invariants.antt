use Rattle.std.proofs.Common.{length}
use Rattle.schema_rules.proofs.schema.Schema.+passes.Given as goal

-- one ancestor less each time
abbrev pub decreases-passes : goal.decreases-passes
decreases-passes l = length l.ancestors.now
