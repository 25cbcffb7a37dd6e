use Rattle.std.proofs.Common.{◌≡◌, drop}
use Rattle.converter_definitions.specs.PlanNames.{converts}
use Rattle.converter_read.proofs.plan_names.converts.Given as goal

-- what is left tells
abbrev pub invariant-loop-plan : goal.invariant-loop-plan
invariant-loop-plan l = converts (drop l.plan-index l.plans) l.name ≡ converts l.plans l.name
