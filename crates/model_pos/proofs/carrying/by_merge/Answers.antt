use Rattle.std.proofs.Common.{◌+◌, ◌-◌, ◌∷◌, sym, ◌∙◌, arith}
use Rattle.item_definitions.specs.Shift.{rule_merge}
use Rattle.model_pos.proofs.Rules.{stays, goes, fits-second, merge-before, merge-in}
use Rattle.model_pos.proofs.carrying.by_merge.Goals as goal

pub returns-then-number-right : goal.returns-then-number-right
returns-then-number-right c =
    c.copy-then-number-right.ensures
    ∙ sym (stays c.args.parent.now c.args.position.now c.in-Some.path.now c.in-Some.number c.in-Some.ensures.parted
    (rule_merge c.args.right c.args.count) (merge-before c.args.right c.args.count c.in-Some.number c.in-Some.path.now c.if-number-right.true))

pub overflow_add-count : goal.overflow_add-count
overflow_add-count c =
    fits-second c.args.parent.now (c.args.right - 1) (c.args.count + c.in-Some-split_first.inner.now) c.in-Some-split_first.rest.now
    (rw (goes c.args.parent.now c.args.position.now c.in-Some.path.now c.in-Some.number c.in-Some.ensures.parted (rule_merge c.args.right c.args.count)
    ((c.args.right - 1) ∷ (c.args.count + c.in-Some-split_first.inner.now) ∷ c.in-Some-split_first.rest.now)
    (merge-in c.args.right c.args.count c.in-Some.number c.in-Some-split_first.inner.now c.in-Some.path.now c.in-Some-split_first.rest.now
    (omega arith) c.in-Some-split_first.ensures.cases.0)) at c.requires.limits)
