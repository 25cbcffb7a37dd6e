use Rattle.std.proofs.Common.{nat_lt, sym, ap, ◌∙◌}
use Rattle.model_pos.proofs.RunEnds.{passes-last, some-path}
use Rattle.model_pos.proofs.runs.stands_by.Goals as goal

pub returns : goal.returns
returns c =
    ap (λ n. nat_lt n c.args.last) c.from-2.ensures
    ∙ sym (passes-last c.args.number c.args.last c.args.path.now (some-path c.args.path.now c.is_empty.result c.is_empty.ensures c.if-is_empty.false))
