use Rattle.std.proofs.Common.{◌≡◌, drop}
use Rattle.std.specs.List.{flat_map}
use Rattle.schema_rules.specs.Numbering.{with_names}
use Rattle.schema_rules.specs.Keys.{own_keys}
use Rattle.schema_rules.proofs.known.with_keys.Given as goal

-- what is left makes the names of all
abbrev pub invariant-loop-entry : goal.invariant-loop-entry
invariant-loop-entry l = with_names l.names (flat_map own_keys (drop l.entry-index l.entries)) ≡ with_names l.fn.names (flat_map own_keys l.entries)
