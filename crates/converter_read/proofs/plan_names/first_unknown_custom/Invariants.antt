use Rattle.std.proofs.Common.{◌≡◌, drop, take}
use Rattle.converter_definitions.specs.PlanNames.{unknown_custom_from, first_unknown_custom}
use Rattle.converter_read.proofs.plan_names.first_unknown_custom.Given as goal

-- what is left tells, behind what was passed over
abbrev pub invariant-loop-index : goal.invariant-loop-index
invariant-loop-index l = unknown_custom_from l.handed_in (take l.index l.plans) (drop l.index l.plans) ≡ first_unknown_custom l.handed_in l.plans
