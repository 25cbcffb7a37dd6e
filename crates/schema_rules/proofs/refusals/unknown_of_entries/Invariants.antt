use Rattle.std.proofs.Common.{◌≡◌, drop}
use Rattle.std.specs.List.{find, flat_map}
use Rattle.schema_definitions.specs.Compiled.{needed_by}
use Rattle.schema_rules.specs.Refused.{is_unknown}
use Rattle.schema_rules.proofs.refusals.unknown_of_entries.Given as goal

-- what is left has the first
abbrev pub invariant-loop-entry : goal.invariant-loop-entry
invariant-loop-entry l = find (is_unknown l.names) (flat_map needed_by (drop l.entry-index l.entries))
    ≡ find (is_unknown l.names) (flat_map needed_by l.entries)
