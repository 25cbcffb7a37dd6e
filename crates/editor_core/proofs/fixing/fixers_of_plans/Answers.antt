use Rattle.std.proofs.Common.{rules, ◌≡◌, ◌∷◌}
use Rattle.post_fix.specs.Listed.{fixers_of}
use Rattle.editor_core.specs.HandedIn.{named_by}
use Rattle.editor_core.proofs.Plans.{next-fixer-there, next-fixer-added, next-fixer-way}
use Rattle.editor_core.proofs.fixing.fixers_of_plans.Goals as goal

pub add_fixer-requires : goal.add_fixer-requires
add_fixer-requires g c =
    let split : c.loop-plan.plan-iterator.rest.items ≡ c.in-Some.plan ∷ c.next.new.self.rest.items = search rules in
    next-fixer-there (named_by (λ b. (goal.Fixer-dyn g (b.vtable, b.value)).fixes b.value) c.args.handed_in.items)
    (named_by (λ b. (goal.Fixer-dyn g (b.vtable, b.value)).fixes b.value) c.loop-plan.handed_in.items)
    c.in-Some.plan c.next.new.self.rest.items c.loop-plan.plan-iterator.rest.items split c.loop-plan.invariant.way

pub loop-plan-preserved : goal.loop-plan-preserved
loop-plan-preserved g c =
    let split : c.loop-plan.plan-iterator.rest.items ≡ c.in-Some.plan ∷ c.next.new.self.rest.items = search rules in
    record {
      added =
          next-fixer-added (named_by (λ b. (goal.Fixer-dyn g (b.vtable, b.value)).fixes b.value) c.args.handed_in.items)
          (named_by (λ b. (goal.Fixer-dyn g (b.vtable, b.value)).fixes b.value) c.loop-plan.handed_in.items)
          c.in-Some.plan c.next.new.self.rest.items c.loop-plan.plan-iterator.rest.items split c.loop-plan.invariant.way
          (fixers_of (λ b. (goal.Fixer-dyn g (b.vtable, b.value)).fixes b.value) c.loop-plan.list)
          (fixers_of (λ b. (goal.Fixer-dyn g (b.vtable, b.value)).fixes b.value) c.add_fixer.new.list) _ c.loop-plan.invariant.added
          c.in_ok-add_fixer.ensures.ok;
      way =
          next-fixer-way (named_by (λ b. (goal.Fixer-dyn g (b.vtable, b.value)).fixes b.value) c.args.handed_in.items)
          (named_by (λ b. (goal.Fixer-dyn g (b.vtable, b.value)).fixes b.value) c.loop-plan.handed_in.items)
          c.in-Some.plan c.next.new.self.rest.items c.loop-plan.plan-iterator.rest.items split c.loop-plan.invariant.way
          (named_by (λ b. (goal.Fixer-dyn g (b.vtable, b.value)).fixes b.value) c.add_fixer.new.handed_in.items) c.in_ok-add_fixer.ensures.others;
    }
