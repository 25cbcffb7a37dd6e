use Rattle.std.proofs.Common.{◌≡◌, drop}
use Rattle.converter_definitions.specs.PlanNames.{first_unknown_item}
use Rattle.converter_read.proofs.plan_names.first_unknown_item.Given as goal

-- what is left tells
abbrev pub invariant-loop-plan : goal.invariant-loop-plan
invariant-loop-plan l = first_unknown_item l.known (drop l.plan-index l.plans) ≡ first_unknown_item l.known l.plans
