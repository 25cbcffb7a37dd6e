use Rattle.std.proofs.Common.{◌≡◌, length, arith}
use Rattle.editor_run.proofs.FirstLine.{line_ends, line_goes_on, line_is_last}
use Rattle.editor_run.proofs.lines.split_line.Goals as goal

pub returns-then-byte-eq10-clause-lines : goal.returns-then-byte-eq10-clause-lines
returns-then-byte-eq10-clause-lines c = line_ends c.args.text.now c.loop-index.index c.loop-index-test.true c.if-byte-eq10.true c.loop-index.invariant

pub loop-index-preserved : goal.loop-index-preserved
loop-index-preserved c = line_goes_on c.args.text.now c.loop-index.index c.loop-index-test.true c.if-byte-eq10.false c.loop-index.invariant

pub returns-clause-lines : goal.returns-clause-lines
returns-clause-lines c =
    let ended : c.loop-index.index ≡ length c.args.text.now = omega arith in
    line_is_last c.args.text.now c.requires (rw ended at c.loop-index.invariant)
