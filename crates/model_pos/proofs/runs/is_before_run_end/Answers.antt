use Rattle.std.proofs.Common.{◌+◌, [], ◌∷◌, not, sym, ap, ◌∙◌, is_gt}
use Rattle.item_definitions.specs.Position.{is_before, position_cmp}
use Rattle.model_pos.proofs.RunEnds.{start-inside, start-outside, gt-not_le}
use Rattle.model_pos.proofs.runs.is_before_run_end.Goals as goal

pub returns-in-Some : goal.returns-in-Some
returns-in-Some c =
    c.stands_before.ensures
    ∙ (λ t. is_before (c.in-Some.number ∷ c.in-Some.path.now) ((c.from.ensures t + c.from-in-Some.ensures t) ∷ []))
    ∙ sym (ap not (start-inside c.split-offset.result.0.now c.args.from.now c.args.position.now c.split-offset.result.1 c.args.count
    c.split-offset.ensures.whole c.in-Some.number c.in-Some.path.now c.in-Some.ensures.parted))

pub returns-in-None : goal.returns-in-None
returns-in-None c =
    c.is_gt.ensures ∙ ap is_gt c.order.ensures ∙ gt-not_le (position_cmp c.args.from.now c.args.position.now)
    ∙ sym (ap not (start-outside c.split-offset.result.0.now c.args.from.now c.args.position.now c.split-offset.result.1 c.args.count
    c.split-offset.ensures.whole c.in-None.ensures.outside))
