use Rattle.std.proofs.Common.{◌≡◌, drop}
use Rattle.undo_stack.proofs.GoingOn.{IsPartOn}
use Rattle.undo_stack.proofs.replay.make_anew.Given as goal

-- the operations that are left lead on to where all lead
abbrev pub invariant-loop-done : goal.invariant-loop-done
invariant-loop-done l = record {
  part : IsPartOn l.records (drop l.done-index l.records) l.batch.records l.initial.document l.document;
  selection : l.batch.selection ≡ l.initial.document.state.document.selection;
}
