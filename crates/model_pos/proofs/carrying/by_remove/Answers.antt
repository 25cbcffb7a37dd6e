use Rattle.std.proofs.Common.{sym, ◌∙◌}
use Rattle.item_definitions.specs.Shift.{rule_remove}
use Rattle.model_pos.proofs.Rules.{stays, remove-before}
use Rattle.model_pos.proofs.carrying.by_remove.Goals as goal

pub returns-then-number-offset : goal.returns-then-number-offset
returns-then-number-offset c =
    c.copy-then-number-offset.ensures
    ∙ sym (stays c.args.parent.now c.args.position.now c.in-Some.path.now c.in-Some.number c.in-Some.ensures.parted
    (rule_remove c.args.offset c.args.count) (remove-before c.args.offset c.args.count c.in-Some.number c.in-Some.path.now c.if-number-offset.true))
