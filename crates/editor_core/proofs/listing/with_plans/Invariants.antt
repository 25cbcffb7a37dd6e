use Rattle.std.proofs.Common.{◌≡◌, []}
use Rattle.conv_rules.specs.Listed.{listed_of, conversion_of}
use Rattle.program_definitions.specs.Converters.{all_added}
use Rattle.editor_core.specs.HandedIn.{named_by}
use Rattle.editor_core.proofs.Plans.{ConvertersPartway}
use Rattle.editor_core.proofs.listing.with_plans.Given as goal

-- what the plans that are left make of the list is what all make of the first one, and nothing else of it has changed
abbrev pub invariant-loop-plan : goal.invariant-loop-plan
invariant-loop-plan g l = record {
  added : all_added (named_by (λ b. (goal.Converter-dyn g (b.vtable, b.value)).gives b.value) l.initial.converters.items)
      (listed_of (λ b. (goal.Converter-dyn g (b.vtable, b.value)).gives b.value) l.list) l.plan-iterator.rest.items
      ≡ all_added (named_by (λ b. (goal.Converter-dyn g (b.vtable, b.value)).gives b.value) l.initial.converters.items)
      (listed_of (λ b. (goal.Converter-dyn g (b.vtable, b.value)).gives b.value) l.initial.list) l.fn.plans.items;
  rest : record (conversion_of (λ b. (goal.Converter-dyn g (b.vtable, b.value)).gives b.value) l.list) { converters = [] }
      ≡ record (conversion_of (λ b. (goal.Converter-dyn g (b.vtable, b.value)).gives b.value) l.initial.list) { converters = [] };
  way : ConvertersPartway (named_by (λ b. (goal.Converter-dyn g (b.vtable, b.value)).gives b.value) l.initial.converters.items)
      (named_by (λ b. (goal.Converter-dyn g (b.vtable, b.value)).gives b.value) l.converters.items) l.plan-iterator.rest.items;
}
