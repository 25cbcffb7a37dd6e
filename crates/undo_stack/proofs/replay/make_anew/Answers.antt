use Rattle.std.proofs.Common.{refl, ◌∙◌, arith, drop, ◌+◌, length-drop}
use Rattle.undo_stack.specs.Replays.{done_again}
use Rattle.undo_stack.proofs.GoingOn.{may_apply, goes_on, ends_on, one_left}
use Rattle.undo_stack.proofs.replay.make_anew.Goals as goal

pub again-requires : goal.again-requires
again-requires c =
    let all = c.args.records.now in
    let at = c.loop-done.done-index in
    may_apply all (drop at all)
    (drop (at + 1) all) c.done-item.result c.loop-done.batch.records c.args.document.now c.loop-done.document c.loop-done.invariant.part
    (one_left all at c.done-item.result (omega (arith, c.loop-done-test.true)) c.done-item.is) c.requires

pub loop-done-preserved : goal.loop-done-preserved
loop-done-preserved c =
    let all = c.args.records.now in
    let at = c.loop-done.done-index in
    let done = c.done-item.result in
    let made = c.in_ok-again.ensures in
    record {
      part = goes_on all (drop at all) (drop (at + 1) all) done c.loop-done.batch.records c.args.document.now c.loop-done.document c.loop-done.invariant.part
          (one_left all at done (omega (arith, c.loop-done-test.true)) c.done-item.is)
          c.again.new.document c.again.new.batch.records
          (done_again done c.loop-done.document c.again.new.document) c.requires made.ok made.mark made.leads refl made.record made.kept;
      selection = made.selection ∙ c.loop-done.invariant.selection;
    }

pub returns-clause-on : goal.returns-clause-on
returns-clause-on c =
    let all = c.args.records.now in
    let at = c.loop-done.done-index in
    ends_on all (drop at all) c.loop-done.batch.records c.args.document.now c.loop-done.document c.loop-done.invariant.part
    (omega (arith, length-drop at all, c.loop-done-test.false, c.loop-done.auto.done-index-end))
