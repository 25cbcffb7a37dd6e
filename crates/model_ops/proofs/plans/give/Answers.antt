use Rattle.std.proofs.Common.{arith}
use Rattle.std.specs.Prelude.{option_copied}
use Rattle.model_ops.proofs.Given.{give_nowhere, give_short, give_other, give_plans, differs_plans}
use Rattle.model_ops.proofs.plans.give.Goals as goal

pub returns-in_default : goal.returns-in_default
returns-in_default c = λ cells _. give_nowhere c.args.parent.now c.args.start c.args.count c.args.key.now (option_copied c.args.old)
    (option_copied c.args.new) c.args.items.now cells c.in_default.ensures

pub returns-then-long-end : goal.returns-then-long-end
returns-then-long-end c = λ cells _.
    give_short c.args.parent.now c.args.start c.args.count c.args.key.now (option_copied c.args.old) (option_copied c.args.new) c.args.items.now cells
    c.in-Some.level.now c.in-Some.ensures (omega (arith, c.len-long.ensures))

pub returns-in-Some-other_value : goal.returns-in-Some-other_value
returns-in-Some-other_value c = λ cells.
    differs_plans _ cells c.value_differs.result (option_copied c.in-Some-other_value.found) c.value_differs.ensures
    (give_other c.args.parent.now c.args.start c.args.count c.args.key.now (option_copied c.args.old) (option_copied c.args.new) c.args.items.now cells
    c.in-Some.level.now c.in-Ok.run' (option_copied c.in-Some-other_value.found)
    c.in-Some.ensures (omega (arith, c.len-long.ensures)) c.in-Ok.ensures c.in-Some-other_value.ensures)

pub returns : goal.returns
returns c = λ cells.
    give_plans c.args.parent.now c.args.start c.args.count c.args.key.now (option_copied c.args.old) (option_copied c.args.new) c.args.items.now cells
    c.in-Some.level.now c.in-Ok.run' c.kept.result
    c.in-Some.ensures c.in-Ok.ensures c.in-None.ensures (c.kept.ensures _ cells c.give_at.ensures)
