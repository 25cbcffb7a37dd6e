use Rattle.std.proofs.Common.{[]}
use Rattle.model_pos.proofs.Pushed.{on_ok, same-step, apart-step}
use Rattle.model_pos.proofs.parts.+push_between.Goals as goal

pub returns-then-index-last : goal.returns-then-index-last
returns-then-index-last g t c =
    on_ok c.push_between-then-index-last.result
    (same-step c.args.above.now c.args.parts.now.items c.push_between-then-index-last.new.parts.items [] c.in-Some.index.now
    c.in-Some-split_first.last.now c.args.start.now c.in-Some.path.now c.args.end.now c.in-Some-split_first.rest.now c.child.result
    (g.C.Counts.counts c.args.tree.now) c.child.ensures c.in-Some.ensures.cases.0 c.in-Some-split_first.ensures.cases.0 c.if-index-last.true)
    c.push_between-then-index-last.ensures

pub returns : goal.returns
returns g t c =
    on_ok c.push_apart.result
    (apart-step c.args.above.now c.args.parts.now.items c.push_apart.new.parts.items [] c.in-Some.index.now c.in-Some-split_first.last.now
    c.args.start.now c.in-Some.path.now c.args.end.now c.in-Some-split_first.rest.now
    (g.C.Counts.counts c.args.tree.now) c.in-Some.ensures.cases.0 c.in-Some-split_first.ensures.cases.0 c.if-index-last.false)
    c.push_apart.ensures
