-- What an undo and a redo do, and why one doesn't come about.
use Rattle.std.specs.Prelude.{◌≡◌, ◌≢◌, ℕ, ◌≤◌, List, [], ◌∷◌, length, reverse, Option, Some, None}
use Rattle.document_definitions.specs.Document.{Document}
use Rattle.document_definitions.specs.Selection.{Selection}
use Rattle.document_definitions.specs.Sound.{IsSound}
use Rattle.model_doc.specs.Batched.{Batched}
use Rattle.model_doc.specs.Held.{Held, Moment, present, letting_go}
use Rattle.undo_stack.specs.declared.fault.StackFault.{StackFault}
use Rattle.undo_stack.specs.declared.fault.StackFault.TheVariants.{Nothing, NoMemory}
use Rattle.undo_stack.specs.Chains.{IsFrom, LedBack}
use Rattle.undo_stack.specs.History.{History}
use Rattle.undo_stack.specs.Stacked.{Undone, Lists, one_undone, one_redone}
use Rattle.undo_stack.specs.Kept.{IsEarlier, IsUndone, Holds}

-- a batch, reverted now, gives some document
abbrev pub MayUndo : Batched → Held → Type 0
MayUndo batch held = (start : Moment) × (document : Document) × IsEarlier start batch document (present held)

-- Whatever document the batch gives, it is the present one then, and the moment is the one from before the batch. No cell went.
pub record IsTakenBack (batch : Batched) (old new : Held) : Type 0 where
  pub document : (start : Moment) (document : Document) → IsEarlier start batch document (present old) → new.state.document ≡ document
  pub from : (start : Moment) (document : Document) → IsEarlier start batch document (present old) → IsFrom start (present new)
  pub cells : length old.state.cells ≤ length new.state.cells
  pub sound : IsSound new.state

-- a batch that was undone, made anew now, gives some document
abbrev pub MayRedo : Undone → Held → Type 0
MayRedo undone held = (start : Moment) × (last : Moment) × (document : Document) × IsUndone start last undone document (present held)

-- Whatever document the batch that was undone gives, it is the present one then. The new batch leads back to the one before, with its
-- selection.
pub record IsMadeAnew (undone : Undone) (batch : Batched) (old new : Held) : Type 0 where
  pub document : (start last : Moment) (document : Document) → IsUndone start last undone document (present old) → new.state.document ≡ document
  pub from : (start last : Moment) (document : Document) → IsUndone start last undone document (present old) → IsFrom last (present new)
  pub back : LedBack (present old) (reverse batch.records) (present new)
  pub selection : batch.selection ≡ old.state.document.selection
  pub sound : IsSound new.state

-- the stacks with a document are this history, which there is
abbrev pub Reaches : Option History → Lists → Held → Type 0
Reaches None lists held = ⊥
Reaches (Some history) lists held = Holds history lists held

-- some history is that of the stacks with a document
abbrev pub HasHistory : Lists → Held → Type 0
HasHistory lists held = (history : History) × Holds history lists held

-- where a list isn't empty, the document keeps the present moment
abbrev pub IsReady : {A : Type 0} → List A → Held → Type 0
IsReady [] held = Unit {0}
IsReady (first ∷ rest) held = held.kept ≡ Some (present held)

-- how many records the last of some batches has
abbrev pub last_count : List Batched → ℕ
last_count [] = 0
last_count (batch ∷ rest) = length batch.records

-- how many records the last batch that was undone has
abbrev pub last_undone_count : List Undone → ℕ
last_undone_count [] = 0
last_undone_count (undone ∷ rest) = length undone.batch.records

-- Nothing: the list is empty, and the document is as it was. NoMemory: the list isn't empty, and the document is as it was, but that it
-- keeps nothing.
abbrev pub IsRefused : {A : Type 0} → StackFault → List A → Held → Held → Type 0
IsRefused Nothing list old new = (list ≡ []) × (new ≡ old)
IsRefused NoMemory list old new = (list ≢ []) × (new ≡ letting_go old)

-- the lists with the last batch undone, when this was the selection
abbrev pub after_undo : Selection → List Batched → Lists → Lists
after_undo selection [] lists = lists
after_undo selection (batch ∷ rest) lists = one_undone batch rest selection lists

-- the lists with the last batch that was undone made anew, as this batch
abbrev pub after_redo : Batched → List Undone → Lists → Lists
after_redo batch [] lists = lists
after_redo batch (undone ∷ rest) lists = one_redone batch rest lists
