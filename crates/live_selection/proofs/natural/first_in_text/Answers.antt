use Rattle.std.proofs.Common.{Some, ap, ◌∙◌, arith}
use Rattle.live_selection.proofs.Looking.{text_fits, text_has_one, text_has_none}
use Rattle.live_selection.proofs.natural.first_in_text.Goals as goal

pub overflow_cast-len : goal.overflow_cast-len
overflow_cast-len c = omega (arith, text_fits c.args.text.now c.args.index c.requires, c.len.ensures)

pub returns-then-have_one : goal.returns-then-have_one
returns-then-have_one c =
    ap Some c.attrs.ensures ∙ text_has_one c.args.bounds c.args.index c.args.text.now c.have_one.result c.len.result c.have_one.ensures c.len.ensures
    c.if-have_one.true

pub returns-else-have_one : goal.returns-else-have_one
returns-else-have_one c = text_has_none c.args.bounds c.args.index c.args.text.now c.have_one.result c.len.result c.have_one.ensures c.len.ensures
    c.if-have_one.false
