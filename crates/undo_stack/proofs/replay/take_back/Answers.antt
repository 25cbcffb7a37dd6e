use Rattle.std.proofs.Common.{rules}
use Rattle.undo_stack.proofs.Moments.{may_revert, goes_back, ends_back}
use Rattle.undo_stack.proofs.replay.take_back.Goals as goal

pub revert-requires : goal.revert-requires
revert-requires c =
    let all = c.args.records.now in
    let old = c.args.document.now in
    may_revert all c.records.left.now c.in-Some.before.now c.in-Some.done.now old c.records.document c.records.invariant (search rules) c.requires

pub records-preserved : goal.records-preserved
records-preserved c =
    let all = c.args.records.now in
    let old = c.args.document.now in
    let made = c.in_ok-revert.ensures in
    goes_back all c.records.left.now c.in-Some.before.now c.in-Some.done.now old c.records.document c.records.invariant (search rules)
    c.revert.new.self made.again made.mark made.cells made.kept

pub returns-clause-back : goal.returns-clause-back
returns-clause-back c =
    ends_back c.args.records.now c.records.left.now c.args.document.now c.records.document c.records.invariant (search rules)
