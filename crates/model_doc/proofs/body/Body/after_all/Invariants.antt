use Rattle.std.proofs.Common.{◌≡◌, length}
use Rattle.std.specs.Vec.Iter.{into_iter_items, into_iter_len}
use Rattle.model_doc.proofs.Partway.{Partway}
use Rattle.model_doc.proofs.body.Body.after_all.Given as goal

-- the operations that are left lead on to where all lead
abbrev pub invariant-loop-operation : goal.invariant-loop-operation
invariant-loop-operation l =
    (goal.iterator-loop-operation).can_next l.operation-iterator ×
    (goal.iterator-loop-operation).is_finite l.operation-iterator ×
    (into_iter_len l.operation-iterator ≡ length (into_iter_items l.operation-iterator)) ×
    Partway l.fn.operations.items l.fn.self.state l.fn.self.mark (into_iter_items l.operation-iterator) l.body.state l.records.items l.body.mark
