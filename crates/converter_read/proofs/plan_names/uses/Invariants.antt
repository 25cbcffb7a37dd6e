use Rattle.std.proofs.Common.{◌≡◌, drop}
use Rattle.converter_definitions.specs.PlanNames.{uses}
use Rattle.converter_read.proofs.plan_names.uses.Given as goal

-- what is left tells
abbrev pub invariant-loop-plan : goal.invariant-loop-plan
invariant-loop-plan l = uses (drop l.plan-index l.plans) l.name ≡ uses l.plans l.name
