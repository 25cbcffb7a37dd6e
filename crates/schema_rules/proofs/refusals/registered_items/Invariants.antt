use Rattle.std.proofs.Common.{◌≡◌, [], take, drop}
use Rattle.schema_definitions.specs.Allowed.{registrations}
use Rattle.schema_definitions.specs.Compiled.{first_repeated}
use Rattle.schema_rules.proofs.refusals.registered_items.Given as goal

-- the items so far, and what is repeated among those that are left
abbrev pub invariant-loop-entry : goal.invariant-loop-entry
invariant-loop-entry l = record {
  items : l.names ≡ registrations (take l.entry-index l.entries);
  repeated : first_repeated l.names (registrations (drop l.entry-index l.entries)) ≡ first_repeated [] (registrations l.entries);
}
