use Rattle.std.proofs.Common.{◌+◌, [], ◌∷◌, sym, ap, ◌∙◌, is_le}
use Rattle.item_definitions.specs.Position.{not_after}
use Rattle.model_pos.proofs.RunEnds.{end-inside, end-outside}
use Rattle.model_pos.proofs.runs.ends_in_run.Goals as goal

pub returns-in-Some : goal.returns-in-Some
returns-in-Some c =
    c.stands_by.ensures
    ∙ (λ t. not_after (c.in-Some.number ∷ c.in-Some.path.now) ((c.from.ensures t + c.from-in-Some.ensures t) ∷ []))
    ∙ sym (end-inside c.split-offset.result.0.now c.args.from.now c.args.position.now c.split-offset.result.1 c.args.count c.split-offset.ensures.whole
    c.in-Some.number c.in-Some.path.now c.in-Some.ensures.parted)

pub returns-in-None : goal.returns-in-None
returns-in-None c =
    c.is_le.ensures ∙ ap is_le c.order.ensures
    ∙ sym (end-outside c.split-offset.result.0.now c.args.from.now c.args.position.now c.split-offset.result.1 c.args.count c.split-offset.ensures.whole
    c.in-None.ensures.outside)
