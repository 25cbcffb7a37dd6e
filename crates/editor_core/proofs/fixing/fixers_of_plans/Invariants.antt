use Rattle.std.proofs.Common.{◌≡◌, ◌++◌, map}
use Rattle.post_fix.specs.Listed.{fixers_of}
use Rattle.program_definitions.specs.Fixers.{fixer_by}
use Rattle.editor_core.specs.HandedIn.{named_by}
use Rattle.editor_core.proofs.Plans.{FixersPartway}
use Rattle.editor_core.proofs.fixing.fixers_of_plans.Given as goal

-- the list with those that are left is that of all
abbrev pub invariant-loop-plan : goal.invariant-loop-plan
invariant-loop-plan g l = record {
  added : fixers_of (λ b. (goal.Fixer-dyn g (b.vtable, b.value)).fixes b.value) l.list
      ++ map (fixer_by (named_by (λ b. (goal.Fixer-dyn g (b.vtable, b.value)).fixes b.value) l.fn.handed_in.items)) l.plan-iterator.rest.items
      ≡ map (fixer_by (named_by (λ b. (goal.Fixer-dyn g (b.vtable, b.value)).fixes b.value) l.fn.handed_in.items)) l.fn.plans.items;
  way : FixersPartway (named_by (λ b. (goal.Fixer-dyn g (b.vtable, b.value)).fixes b.value) l.fn.handed_in.items)
      (named_by (λ b. (goal.Fixer-dyn g (b.vtable, b.value)).fixes b.value) l.handed_in.items) l.plan-iterator.rest.items;
}
