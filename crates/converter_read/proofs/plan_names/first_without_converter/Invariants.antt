use Rattle.std.proofs.Common.{◌≡◌, drop}
use Rattle.converter_definitions.specs.PlanNames.{first_without_converter}
use Rattle.converter_read.proofs.plan_names.first_without_converter.Given as goal

-- what is left tells
abbrev pub invariant-loop-name : goal.invariant-loop-name
invariant-loop-name l = first_without_converter l.plans (drop l.name-index l.registered) ≡ first_without_converter l.plans l.registered
