use Rattle.std.proofs.Common.{◌≡◌, ◌++◌}
use Rattle.schema_definitions.specs.Allowed.{registered}
use Rattle.schema_rules.proofs.schema.Schema.registered.Given as goal

-- the names so far, and those that are left
abbrev pub invariant-loop-name : goal.invariant-loop-name
invariant-loop-name l = l.names.items ++ l.name-iterator ≡ registered l.self
