use Rattle.std.proofs.Common.{◌∙◌, ap, sym}
use Rattle.std.specs.Prelude.{is_some}
use Rattle.operation_definitions.specs.After.{room_at}
use Rattle.model_ops.proofs.Planned.{move_plans}
use Rattle.model_ops.proofs.plans.move_in_tree.Goals as goal

pub returns : goal.returns
returns c = λ cells.
    move_plans c.args.from.now c.args.count c.args.to.now c.args.items.now cells c.split-offset.result.0.now c.split-offset.result.1
    c.split-last.result.0.now c.split-last.result.1 c.kept.result
    c.split-offset.ensures.parent c.split-offset.ensures.offset c.split-offset.ensures.whole c.split-last.ensures.whole
    (sym c.if-not-has_run.ensures) (ap (λ path. is_some (room_at c.args.items.now path)) c.split-last.ensures.whole ∙ sym c.if-not-has_place.ensures)
    (sym c.if-is_in_run.ensures)
    (c.kept.ensures _ cells c.moved.ensures)
