use Rattle.std.proofs.Common.{subst}
use Rattle.schema_rules.specs.Numbering.{AreDistinct}
use Rattle.schema_rules.proofs.Numbered.{numbers_distinct}
use Rattle.schema_rules.proofs.numbering.Numbering.len.Goals as goal

pub returns-clause-distinct : goal.returns-clause-distinct
returns-clause-distinct c = subst (λ names. AreDistinct names) c.self.view_is (numbers_distinct c.self.inside.names.items c.self.inside.places c.self.invariant)
