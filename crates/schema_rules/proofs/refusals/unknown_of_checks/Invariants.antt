use Rattle.std.proofs.Common.{◌≡◌, drop}
use Rattle.std.specs.List.{find, flat_map}
use Rattle.schema_definitions.specs.Compiled.{needed_by_check}
use Rattle.schema_rules.specs.Refused.{is_unknown}
use Rattle.schema_rules.proofs.refusals.unknown_of_checks.Given as goal

-- what is left has the first
abbrev pub invariant-loop-check : goal.invariant-loop-check
invariant-loop-check l = find (is_unknown l.names) (flat_map needed_by_check (drop l.check-index l.checks))
    ≡ find (is_unknown l.names) (flat_map needed_by_check l.checks)
