use Rattle.std.proofs.Common.{◌≡◌, drop, fold}
use Rattle.converter_definitions.specs.Indexed.{counted_by, with_name, indexed_names}
use Rattle.converter_read.proofs.indexed.indexed_names.Given as goal

-- the names so far, and those of what is left
abbrev pub invariant-loop-plan : goal.invariant-loop-plan
invariant-loop-plan l = fold (λ names plan. with_name names (counted_by plan.entry)) l.names.items (drop l.plan-index l.plans) ≡ indexed_names l.plans
