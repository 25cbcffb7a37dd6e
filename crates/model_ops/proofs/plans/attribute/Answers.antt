use Rattle.std.proofs.Common.{◌-◌, ◌∙◌, ap, refl}
use Rattle.item_definitions.specs.Children.{parent_of, offset_of}
use Rattle.model_ops.proofs.Given.{flat_plans, same_values}
use Rattle.model_ops.proofs.plans.attribute.Goals as goal

pub returns : goal.returns
returns c = λ cells.
    flat_plans c.args.range.now c.args.key.now c.args.old.now c.args.new.now c.args.items.now cells c.split-start.result.0.now c.split-start.result.1
    c.saturating_sub-count.result c.give.result
    (c.if-not-is_flat.ensures.0 refl) (c.split-start.ensures.parent ∙ ap parent_of c.start.ensures.start) (c.split-start.ensures.offset
    ∙ ap offset_of c.start.ensures.start)
    (c.saturating_sub-count.ensures ∙ ap (λ n. n - c.split-start.result.1) (c.offset.ensures ∙ ap offset_of c.end.ensures))
    (same_values c.split-start.result.0.now c.split-start.result.1 c.saturating_sub-count.result c.args.key.now _ _ _ _ c.args.items.now cells
    c.give.result c.as_ref.ensures.value c.as_ref-2.ensures.value (c.give.ensures cells))
