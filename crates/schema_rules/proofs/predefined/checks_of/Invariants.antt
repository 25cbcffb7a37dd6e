use Rattle.std.proofs.Common.{◌≡◌, take}
use Rattle.schema_rules.proofs.predefined.checks_of.Given as goal

-- the checks so far
abbrev pub invariant-loop-check : goal.invariant-loop-check
invariant-loop-check l = l.checks.items ≡ take l.check-index l.file.checks.items
