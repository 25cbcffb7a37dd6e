use Rattle.std.proofs.Common.{◌≡◌, ◌++◌, drop}
use Rattle.schema_definitions.specs.Allowed.{registrations}
use Rattle.schema_definitions.specs.Compiled.{predefined}
use Rattle.config_read.proofs.registered.registered_items.Given as goal

-- the items so far, and those of what is left
abbrev pub invariant-loop-entry : goal.invariant-loop-entry
invariant-loop-entry l = l.names.items ++ registrations (drop l.entry-index l.entries) ≡ registrations (predefined ++ l.entries)
