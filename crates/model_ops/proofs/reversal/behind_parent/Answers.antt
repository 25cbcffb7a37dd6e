use Rattle.std.proofs.Common.{arith, sym, ◌∙◌}
use Rattle.model_ops.proofs.Behind.{next_within, next_is}
use Rattle.model_ops.proofs.reversal.behind_parent.Goals as goal

pub overflow_add-index : goal.overflow_add-index
overflow_add-index c = (let less = next_within c.in-Some.above.now _ c.in-Some.index.now (sym c.split.ensures.parent ∙ c.in-Some.ensures.cases.0)
    c.requires.limits in omega (arith, less))

pub returns : goal.returns
returns c = next_is c.in-Some.above.now _ c.in-Some-from_slice.path c.push.new.self c.in-Some.index.now (sym c.split.ensures.parent
    ∙ c.in-Some.ensures.cases.0) c.in-Some-from_slice.ensures.path c.push.ensures
