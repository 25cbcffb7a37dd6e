use Rattle.std.proofs.Common.{◌≡◌, drop}
use Rattle.schema_definitions.specs.Names.{in_order, in_order_among}
use Rattle.schema_definitions.specs.Allowed.{registrations}
use Rattle.schema_rules.proofs.schema.sorted_items.Given as goal

-- what is left makes the order of all
abbrev pub invariant-loop-entry : goal.invariant-loop-entry
invariant-loop-entry l = in_order_among l.set.keys (registrations (drop l.entry-index l.entries)) ≡ in_order (registrations l.entries)
