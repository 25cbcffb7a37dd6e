-- The batches of the stacks as the earlier and the undone documents.
use Rattle.std.specs.Prelude.{◌≡◌, ℕ, ◌≤◌, List, [], ◌∷◌, length, reverse}
use Rattle.operation_definitions.specs.After.{in_cell_at}
use Rattle.document_definitions.specs.Document.{Document}
use Rattle.document_definitions.specs.Sound.{IsSound}
use Rattle.model_doc.specs.Batched.{Batched}
use Rattle.model_doc.specs.Held.{Held, Moment, present}
use Rattle.undo_stack.specs.Chains.{LedBack, LedOn}
use Rattle.undo_stack.specs.History.{History}
use Rattle.undo_stack.specs.Stacked.{Undone, Lists}

-- Reverted at a moment, a batch gives this document, which stood at the moment when it was begun, whatever cells are left.
pub record IsEarlier (start : Moment) (batch : Batched) (document : Document) (now : Moment) : Type 0 where
  pub same : start.state.document ≡ document
  pub sound : IsSound start.state
  pub selection : batch.selection ≡ document.selection
  pub led : LedBack start (reverse batch.records) now

-- batches, the last first, give these documents, each reverted where the one before it in the list has led back to
abbrev pub AreEarlier : List Document → List Batched → Moment → Type 0
AreEarlier [] [] now = Unit {0}
AreEarlier [] (batch ∷ batches) now = ⊥
AreEarlier (document ∷ documents) [] now = ⊥
AreEarlier (document ∷ documents) (batch ∷ batches) now = (start : Moment) × IsEarlier start batch document now × AreEarlier documents batches start

-- Items, markers and next id at two moments are the same, and so is what each cell holds, and the mark.
pub record IsLike (moment now : Moment) : Type 0 where
  pub items : now.state.document.items ≡ moment.state.document.items
  pub markers : now.state.document.markers ≡ moment.state.document.markers
  pub next_id : now.state.document.next_id ≡ moment.state.document.next_id
  pub cells : (number : ℕ) → in_cell_at now.state.cells number ≡ in_cell_at moment.state.cells number
  pub mark : now.mark ≡ moment.mark

-- Made anew at a moment, the operations of a batch that was undone give this document, with the selection that was kept, whatever cells are
-- left.
pub record IsUndone (start last : Moment) (undone : Undone) (document : Document) (now : Moment) : Type 0 where
  pub same : last.state.document ≡ document
  pub sound : IsSound last.state
  pub selection : undone.selection ≡ document.selection
  pub led : LedOn start undone.batch.records last
  pub like : IsLike start now
  pub cells : length last.state.cells ≤ length now.state.cells

-- batches, the last undone first, give these documents, each where the one before it in the list has led on to
abbrev pub AreUndone : List Document → List Undone → Moment → Type 0
AreUndone [] [] now = Unit {0}
AreUndone [] (undone ∷ rest) now = ⊥
AreUndone (document ∷ documents) [] now = ⊥
AreUndone (document ∷ documents) (undone ∷ rest) now = (start : Moment) × (last : Moment) × IsUndone start last undone document now
    × AreUndone documents rest last

-- The stacks with a document are the history: the document is the present one, and the batches give the earlier and the undone ones.
pub record Holds (history : History) (lists : Lists) (held : Held) : Type 0 where
  pub now : held.state.document ≡ history.now
  pub sound : IsSound held.state
  pub earlier : AreEarlier history.earlier lists.earlier (present held)
  pub undone : AreUndone history.undone lists.undone (present held)
