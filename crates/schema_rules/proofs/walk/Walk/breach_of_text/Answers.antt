use Rattle.std.proofs.Common.{◌≡◌, ◌+◌, ap, subst, arith}
use Rattle.std.specs.Prelude.{IfOk}
use Rattle.schema_rules.proofs.Placing.{text_fits, text_short, text_untested, text_tested}
use Rattle.schema_rules.proofs.walk.Walk.breach_of_text.Goals as goal

pub overflow_cast-end : goal.overflow_cast-end
overflow_cast-end c = omega (arith, text_fits c.args.above.now c.args.index c.args.text.now c.requires.there, c.len.ensures)

pub overflow_add-end : goal.overflow_add-end
overflow_add-end c = omega (arith, text_fits c.args.above.now c.args.index c.args.text.now c.requires.there, c.len.ensures)

pub returns-then-first-end : goal.returns-then-first-end
returns-then-first-end c =
    text_untested c.args.self.now.schema.now c.args.chosen.now c.args.above.now c.args.index (c.args.index + c.len.result) c.args.text.now
    (ap (λ n. c.args.index + n) c.len.ensures)
    (λ i low high. c.first-first.ensures.before i low (omega arith))

pub breach_here-requires-clause-short : goal.breach_here-requires-clause-short
breach_here-requires-clause-short c = text_short c.args.above.now c.args.index c.args.text.now c.requires.there (omega (arith, c.len.ensures))

pub returns : goal.returns
returns c =
    subst (λ wanted. IfOk c.breach_here.result (λ found. found ≡ wanted))
    (text_tested c.args.self.now.schema.now c.args.chosen.now c.args.above.now c.args.index (c.args.index + c.len.result) c.first-first.result
    c.args.text.now c.args.self.now.text c.attrs.result.now c.args.self.now.is_text
    c.attrs.ensures (ap (λ n. c.args.index + n) c.len.ensures) (omega arith) (omega arith) c.first-first.ensures.before
    (c.first-first.ensures.there (omega arith)))
    c.breach_here.ensures
