use Rattle.std.proofs.Common.{sym, ◌∙◌, arith}
use Rattle.model_ops.proofs.Merging.{unequal, equal, not_end, left_elsewhere, left_other, is_end}
use Rattle.model_ops.proofs.plans.is_left_end.Goals as goal

pub returns-then-ne : goal.returns-then-ne
returns-then-ne c =
    not_end c.args.right.now c.args.target.now c.args.items.now
    (left_elsewhere c.args.right.now c.args.target.now c.in-Some.above.now c.in-Some-split_last.parent.now c.split-count.result.0.now
    c.in-Some.before.now c.in-Some-split_last.index.now c.split-count.result.1 c.args.items.now
    c.in-Some.ensures.cases.0 c.split-count.ensures.parent c.split-count.ensures.offset (sym c.as_slice.ensures.numbers
    ∙ c.in-Some-split_last.ensures.cases.0) (unequal c.in-Some.above.now c.in-Some-split_last.parent.now c.if-ne.ensures))

pub returns-then-before-index : goal.returns-then-before-index
returns-then-before-index c =
    not_end c.args.right.now c.args.target.now c.args.items.now
    (left_other c.args.right.now c.args.target.now c.in-Some.above.now c.in-Some-split_last.parent.now c.split-count.result.0.now c.in-Some.before.now
    c.in-Some-split_last.index.now c.split-count.result.1 c.args.items.now
    c.in-Some.ensures.cases.0 c.split-count.ensures.parent c.split-count.ensures.offset (sym c.as_slice.ensures.numbers
    ∙ c.in-Some-split_last.ensures.cases.0) c.if-before-index.true)

pub returns-in-Some-list_at : goal.returns-in-Some-list_at
returns-in-Some-list_at c =
    is_end c.args.right.now c.args.target.now c.in-Some.above.now c.in-Some-split_last.parent.now c.split-count.result.0.now c.in-Some.before.now
    c.in-Some-split_last.index.now c.split-count.result.1 c.args.items.now
    c.in-Some.ensures.cases.0 c.split-count.ensures.parent c.split-count.ensures.offset (sym c.as_slice.ensures.numbers ∙ c.in-Some-split_last.ensures.cases.0)
    (equal c.in-Some.above.now c.in-Some-split_last.parent.now c.if-ne.ensures) c.if-before-index.false c.in-Some-list_at.level.now
    c.in-Some-list_at.ensures c.len.result c.len.ensures (omega (arith, c.split-count.type_inv.1))
