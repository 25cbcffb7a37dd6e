-- What happens to stacks and their document, one event after the other, and what it does to the history.
use Rattle.std.specs.Prelude.{◌≡◌, List, [], ◌∷◌, reverse, Option, Some, option_and_then}
use Rattle.document_definitions.specs.Document.{Document, with_selection}
use Rattle.document_definitions.specs.Selection.{Selection}
use Rattle.document_definitions.specs.Sound.{IsSound}
use Rattle.model_doc.specs.Batched.{Batched}
use Rattle.model_doc.specs.Held.{Held, present, in_state}
use Rattle.model_doc.specs.Records.{IsAgain}
use Rattle.undo_stack.specs.Chains.{LedBack}
use Rattle.undo_stack.specs.History.{History, pushed, replaced, undo, redo, cleared}
use Rattle.undo_stack.specs.Stacked.{Lists, no_lists, with_batch}
use Rattle.undo_stack.specs.Kept.{Holds}
use Rattle.undo_stack.specs.Turns.{Reaches}

-- A batch was made, which led to this document, and pushed. The last batch was undone, or redone. The selection became another one. Records
-- were made, and all taken back again. The stacks were emptied.
pub data Event : Type 0 where
  push : Batched → Document → Event
  undone : Event
  redone : Event
  select : Selection → Event
  came_back : Event
  clear : Event

-- a document with another selection
abbrev pub selecting : Selection → Document → Document
selecting selection document = record { items = document.items; markers = document.markers; selection = selection; next_id = document.next_id }

-- what an event makes of a history
abbrev pub after_event : Event → History → Option History
after_event (push batch document) history = Some (pushed document history)
after_event undone history = undo history
after_event redone history = redo history
after_event (select selection) history = Some (replaced (selecting selection history.now) history)
after_event came_back history = Some history
after_event clear history = Some (cleared history)

-- what events, one after the other, make of a history: None where an undo or a redo has nothing to take
abbrev pub after_events : List Event → History → Option History
after_events [] history = Some history
after_events (event ∷ events) history = option_and_then (after_events events) (after_event event history)

-- the stacks and the document before and after an event
pub record Turn : Type 0 where
  pub old_lists : Lists
  pub old : Held
  pub new_lists : Lists
  pub new : Held

-- the records of a batch that was begun on a document, in order, led to this one, and the batch was put last
pub record IsPush (batch : Batched) (made : Document) (turn : Turn) : Type 0 where
  pub now : turn.new.state.document ≡ made
  pub lists : turn.new_lists ≡ with_batch batch turn.old_lists
  pub selection : batch.selection ≡ turn.old.state.document.selection
  pub led : LedBack (present turn.old) (reverse batch.records) (present turn.new)
  pub sound : IsSound turn.new.state

-- an undo that came about, as the call says it
abbrev pub IsUndo : Turn → Type 0
IsUndo turn = (history : History) → Holds history turn.old_lists turn.old → Reaches (undo history) turn.new_lists turn.new

-- a redo that came about, as the call says it
abbrev pub IsRedo : Turn → Type 0
IsRedo turn = (history : History) → Holds history turn.old_lists turn.old → Reaches (redo history) turn.new_lists turn.new

-- the selection is another one, and the document is sound with it
pub record IsSelect (selection : Selection) (turn : Turn) : Type 0 where
  pub lists : turn.new_lists ≡ turn.old_lists
  pub new : turn.new ≡ in_state (with_selection selection turn.old.state) turn.old
  pub sound : IsSound turn.new.state

-- the document and its mark are the ones from before again, but for cells that are empty
pub record IsComeBack (turn : Turn) : Type 0 where
  pub lists : turn.new_lists ≡ turn.old_lists
  pub again : IsAgain turn.old.state turn.new.state
  pub mark : turn.new.mark ≡ turn.old.mark
  pub sound : IsSound turn.new.state

-- both stacks are empty, and the document is as it was
pub record IsClear (turn : Turn) : Type 0 where
  pub lists : turn.new_lists ≡ no_lists
  pub new : turn.new ≡ turn.old

-- an event took the stacks and the document from before to after
abbrev pub Happens : Event → Turn → Type 0
Happens (push batch document) turn = IsPush batch document turn
Happens undone turn = IsUndo turn
Happens redone turn = IsRedo turn
Happens (select selection) turn = IsSelect selection turn
Happens came_back turn = IsComeBack turn
Happens clear turn = IsClear turn

-- from one event to the next
abbrev pub turn_of : Lists → Held → Lists → Held → Turn
turn_of old_lists old new_lists new = record { old_lists = old_lists; old = old; new_lists = new_lists; new = new }

-- events, one after the other, took stacks and document from before to after
abbrev pub AllHappen : List Event → Lists → Held → Lists → Held → Type 0
AllHappen [] old_lists old new_lists new = (new_lists ≡ old_lists) × (new ≡ old)
AllHappen (event ∷ events) old_lists old new_lists new = (lists : Lists) × (held : Held) × Happens event (turn_of old_lists old lists held)
    × AllHappen events lists held new_lists new
