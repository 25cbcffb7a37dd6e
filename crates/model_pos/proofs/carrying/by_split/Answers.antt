use Rattle.std.proofs.Common.{◌+◌, ◌-◌, ◌∷◌, sym, ◌∙◌, arith}
use Rattle.item_definitions.specs.Shift.{rule_split}
use Rattle.model_pos.specs.Shifts.{stick_of}
use Rattle.model_pos.proofs.Rules.{stays, goes, fits-at, split-before, split-behind, split-end, split-stays, split-goes}
use Rattle.model_pos.proofs.carrying.by_split.Goals as goal

pub returns-then-number-element : goal.returns-then-number-element
returns-then-number-element c =
    c.copy-then-number-element.ensures
    ∙ sym (stays c.args.parent.now c.args.position.now c.in-Some.path.now c.in-Some.number c.in-Some.ensures.parted
    (rule_split c.args.element c.args.at (stick_of c.args.stick))
    (split-before c.args.element c.args.at c.in-Some.number (stick_of c.args.stick) c.in-Some.path.now c.if-number-element.true))

pub overflow_add-number : goal.overflow_add-number
overflow_add-number c =
    fits-at c.args.parent.now c.in-Some.path.now (c.in-Some.number + 1)
    (rw (goes c.args.parent.now c.args.position.now c.in-Some.path.now c.in-Some.number c.in-Some.ensures.parted
    (rule_split c.args.element c.args.at (stick_of c.args.stick)) ((c.in-Some.number + 1) ∷ c.in-Some.path.now)
    (split-behind c.args.element c.args.at c.in-Some.number (stick_of c.args.stick) c.in-Some.path.now c.if-number-element-2.true)) at c.requires)

pub returns-in_default-split_first : goal.returns-in_default-split_first
returns-in_default-split_first c =
    c.copy-in_default-split_first.ensures
    ∙ sym (stays c.args.parent.now c.args.position.now c.in-Some.path.now c.in-Some.number c.in-Some.ensures.parted
    (rule_split c.args.element c.args.at (stick_of c.args.stick))
    (split-end c.args.element c.args.at c.in-Some.number (stick_of c.args.stick) c.in-Some.path.now (omega arith) c.in_default-split_first.ensures.cases))

pub returns-then-not-comes_before : goal.returns-then-not-comes_before
returns-then-not-comes_before c =
    c.copy-then-not-comes_before.ensures
    ∙ sym (stays c.args.parent.now c.args.position.now c.in-Some.path.now c.in-Some.number c.in-Some.ensures.parted
    (rule_split c.args.element c.args.at (stick_of c.args.stick))
    (split-stays c.args.element c.args.at c.in-Some.number c.in-Some-split_first.inner.now (stick_of c.args.stick) c.in-Some.path.now
    c.in-Some-split_first.rest.now c.comes_before.result (omega arith) c.in-Some-split_first.ensures.cases.0 c.comes_before.ensures
    c.if-not-comes_before.true))

pub overflow_add-element : goal.overflow_add-element
overflow_add-element c =
    fits-at c.args.parent.now ((c.in-Some-split_first.inner.now - c.args.at) ∷ c.in-Some-split_first.rest.now) (c.args.element + 1)
    (rw (goes c.args.parent.now c.args.position.now c.in-Some.path.now c.in-Some.number c.in-Some.ensures.parted
    (rule_split c.args.element c.args.at (stick_of c.args.stick)) ((c.args.element + 1) ∷ (c.in-Some-split_first.inner.now - c.args.at)
    ∷ c.in-Some-split_first.rest.now) (split-goes c.args.element c.args.at c.in-Some.number c.in-Some-split_first.inner.now (stick_of c.args.stick)
    c.in-Some.path.now c.in-Some-split_first.rest.now c.comes_before.result (omega arith) c.in-Some-split_first.ensures.cases.0 c.comes_before.ensures
    c.if-not-comes_before.false)) at c.requires)
