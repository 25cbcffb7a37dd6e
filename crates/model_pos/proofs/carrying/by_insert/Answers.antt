use Rattle.std.proofs.Common.{◌+◌, ◌∷◌, if◌then◌else◌, sym, ap, ◌∙◌}
use Rattle.item_definitions.specs.Shift.{rule_insert}
use Rattle.model_pos.specs.Shifts.{stick_of}
use Rattle.model_pos.proofs.Rules.{stays, goes, fits-at}
use Rattle.model_pos.proofs.carrying.by_insert.Goals as goal

pub returns-then-not-comes_before : goal.returns-then-not-comes_before
returns-then-not-comes_before c =
    c.copy-then-not-comes_before.ensures
    ∙ sym (stays c.args.parent.now c.args.position.now c.in-Some.path.now c.in-Some.number c.in-Some.ensures.parted
    (rule_insert c.args.offset c.args.count (stick_of c.args.stick))
    (ap (λ b. (if b then c.in-Some.number + c.args.count else c.in-Some.number) ∷ c.in-Some.path.now) (sym c.comes_before.ensures
    ∙ c.if-not-comes_before.true)))

pub overflow_add-number : goal.overflow_add-number
overflow_add-number c =
    fits-at c.args.parent.now c.in-Some.path.now (c.in-Some.number + c.args.count)
    (rw (goes c.args.parent.now c.args.position.now c.in-Some.path.now c.in-Some.number c.in-Some.ensures.parted
    (rule_insert c.args.offset c.args.count (stick_of c.args.stick))
    ((c.in-Some.number + c.args.count) ∷ c.in-Some.path.now)
    (ap (λ b. (if b then c.in-Some.number + c.args.count else c.in-Some.number) ∷ c.in-Some.path.now) (sym c.comes_before.ensures
    ∙ c.if-not-comes_before.false)))
    at c.requires)
