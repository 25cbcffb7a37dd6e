use Rattle.std.proofs.Common.{rules, ◌≡◌, ◌∷◌, ◌∙◌}
use Rattle.conv_rules.specs.Listed.{listed_of}
use Rattle.editor_core.specs.HandedIn.{named_by}
use Rattle.editor_core.proofs.Plans.{next-there, next-added, next-way}
use Rattle.editor_core.proofs.listing.with_plans.Goals as goal

pub add_plan-requires : goal.add_plan-requires
add_plan-requires g c =
    let split : c.loop-plan.plan-iterator.rest.items ≡ c.in-Some.plan ∷ c.next.new.self.rest.items = search rules in
    next-there (named_by (λ b. (goal.Converter-dyn g (b.vtable, b.value)).gives b.value) c.args.converters.items)
    (named_by (λ b. (goal.Converter-dyn g (b.vtable, b.value)).gives b.value) c.loop-plan.converters.items)
    c.in-Some.plan c.next.new.self.rest.items c.loop-plan.plan-iterator.rest.items split c.loop-plan.invariant.way

pub loop-plan-preserved : goal.loop-plan-preserved
loop-plan-preserved g c =
    let split : c.loop-plan.plan-iterator.rest.items ≡ c.in-Some.plan ∷ c.next.new.self.rest.items = search rules in
    record {
      added =
          next-added (named_by (λ b. (goal.Converter-dyn g (b.vtable, b.value)).gives b.value) c.args.converters.items)
          (named_by (λ b. (goal.Converter-dyn g (b.vtable, b.value)).gives b.value) c.loop-plan.converters.items)
          c.in-Some.plan c.next.new.self.rest.items c.loop-plan.plan-iterator.rest.items split c.loop-plan.invariant.way
          (listed_of (λ b. (goal.Converter-dyn g (b.vtable, b.value)).gives b.value) c.loop-plan.list)
          (listed_of (λ b. (goal.Converter-dyn g (b.vtable, b.value)).gives b.value) c.add_plan.new.list) _ c.loop-plan.invariant.added
          c.in_ok-add_plan.ensures.ok;
      rest = c.in_ok-add_plan.ensures.rest ∙ c.loop-plan.invariant.rest;
      way =
          next-way (named_by (λ b. (goal.Converter-dyn g (b.vtable, b.value)).gives b.value) c.args.converters.items)
          (named_by (λ b. (goal.Converter-dyn g (b.vtable, b.value)).gives b.value) c.loop-plan.converters.items)
          c.in-Some.plan c.next.new.self.rest.items c.loop-plan.plan-iterator.rest.items split c.loop-plan.invariant.way
          (named_by (λ b. (goal.Converter-dyn g (b.vtable, b.value)).gives b.value) c.add_plan.new.converters.items) c.in_ok-add_plan.ensures.others;
    }
