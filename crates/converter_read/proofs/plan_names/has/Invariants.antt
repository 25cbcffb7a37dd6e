use Rattle.std.proofs.Common.{◌≡◌, drop}
use Rattle.schema_definitions.specs.Names.{has}
use Rattle.converter_read.proofs.plan_names.has.Given as goal

-- what is left tells
abbrev pub invariant-loop-other : goal.invariant-loop-other
invariant-loop-other l = has (drop l.other-index l.names) l.name ≡ has l.names l.name
