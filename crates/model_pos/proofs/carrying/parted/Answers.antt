use Rattle.model_pos.proofs.Rules.{untouched-end, short-joined}
use Rattle.model_pos.proofs.carrying.parted.Goals as goal

pub returns-in-None-clause-apart : goal.returns-in-None-clause-apart
returns-in-None-clause-apart c =
    untouched-end c.args.parent.now c.args.position.now c.as_slice.result.now c.in-Some.rest.now c.as_slice.ensures.numbers c.in-Some.ensures
    c.in-None.ensures.cases

pub returns-in-Some-split_first-clause-short : goal.returns-in-Some-split_first-clause-short
returns-in-Some-split_first-clause-short c =
    short-joined c.args.parent.now c.args.position.now c.as_slice.result.now c.in-Some.rest.now c.in-Some-split_first.path.now c.in-Some-split_first.number.now
    c.as_slice.ensures.numbers c.in-Some.ensures c.in-Some-split_first.ensures.cases.0 c.as_slice.ensures.short
