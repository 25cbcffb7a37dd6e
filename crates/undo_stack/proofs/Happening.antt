-- The stacks with their document are the history, event after event.
use Rattle.std.proofs.Common.{◌≡◌, List, [], ◌∷◌, Option, Some, None, refl, sym, ap, ◌∙◌, subst}
use Rattle.std.specs.Prelude.{option_and_then}
use Rattle.document_definitions.specs.Document.{Document}
use Rattle.document_definitions.specs.Selection.{Selection}
use Rattle.document_definitions.specs.Sound.{IsSound}
use Rattle.model_doc.specs.Batched.{Batched}
use Rattle.model_doc.specs.Held.{Held, present}
use Rattle.undo_stack.specs.Chains.{IsFrom}
use Rattle.undo_stack.specs.History.{History, opened, pushed, replaced, cleared}
use Rattle.undo_stack.specs.Stacked.{Lists, no_lists}
use Rattle.undo_stack.specs.Kept.{Holds}
use Rattle.undo_stack.specs.Turns.{Reaches}
use Rattle.undo_stack.specs.Events.{Event, push, undone, redone, select, came_back, clear, selecting, after_event, after_events, Turn, turn_of, IsPush}
use Rattle.undo_stack.specs.Events.{IsSelect, IsComeBack, IsClear, Happens, AllHappen}
use Rattle.undo_stack.proofs.Holding.{earlier_on, undone_on, selected_from}

-- empty stacks are the history to which nothing led
pub holds_opened : (held : Held) → IsSound held.state → Holds (opened held.state.document) no_lists held
holds_opened held sound = record { now = refl; sound = sound; earlier = tt; undone = tt }

-- a push
pub holds_pushed : (history : History) (batch : Batched) (turn : Turn) (made : Document) → Holds history turn.old_lists turn.old → IsPush batch made turn
    → Holds (pushed made history) turn.new_lists turn.new
holds_pushed history batch turn made holds is =
    subst (λ lists. Holds (pushed made history) lists turn.new) (sym is.lists) (record {
      now = is.now;
      sound = is.sound;
      earlier = (
        present turn.old,
        record {
          same = holds.now;
          sound = holds.sound;
          selection = is.selection ∙ ap (λ (d : Document). d.selection) holds.now;
          led = is.led;
        },
        holds.earlier,
      );
      undone = tt;
    })

-- what leaves the lists, and leads to a moment that is like the one before
holds_on : (history : History) (lists : Lists) (old new : Held) (made : Document) → Holds history lists old → IsFrom (present old) (present new)
    → new.state.document ≡ made → IsSound new.state
    → Holds (replaced made history) lists new
holds_on history lists old new made holds from now sound = record {
  now = now;
  sound = sound;
  earlier = earlier_on history.earlier lists.earlier (present old) (present new) from holds.earlier;
  undone = undone_on history.undone lists.undone (present old) (present new) from holds.undone;
}

pub holds_selected : (history : History) (selection : Selection) (turn : Turn) → Holds history turn.old_lists turn.old → IsSelect selection turn
    → Holds (replaced (selecting selection history.now) history) turn.new_lists turn.new
holds_selected history selection turn holds is =
    subst (λ lists. Holds (replaced (selecting selection history.now) history) lists turn.new) (sym is.lists)
    (holds_on history turn.old_lists turn.old turn.new (selecting selection history.now) holds (selected_from selection turn.old turn.new is.new)
    (ap (λ (h : Held). h.state.document) is.new ∙ ap (selecting selection) holds.now) is.sound)

pub holds_back : (history : History) (turn : Turn) → Holds history turn.old_lists turn.old → IsComeBack turn → Holds history turn.new_lists turn.new
holds_back history turn holds is =
    subst (λ lists. Holds history lists turn.new) (sym is.lists)
    (holds_on history turn.old_lists turn.old turn.new history.now holds
    (record { reached = (ap (λ d. d.items) is.again.0, ap (λ d. d.markers) is.again.0, ap (λ d. d.next_id) is.again.0, is.again.1); mark = is.mark })
    (is.again.0 ∙ holds.now) is.sound)

pub holds_cleared : (history : History) (turn : Turn) → Holds history turn.old_lists turn.old → IsClear turn → Holds (cleared history) turn.new_lists turn.new
holds_cleared history turn holds is =
    subst (λ lists. Holds (cleared history) lists turn.new) (sym is.lists)
    (subst (λ (held : Held). Holds (cleared history) no_lists held) (sym is.new) (record { now = holds.now; sound = holds.sound; earlier = tt; undone = tt }))

-- one event
happened : (event : Event) (history : History) (turn : Turn) → Holds history turn.old_lists turn.old → Happens event turn
    → Reaches (after_event event history) turn.new_lists turn.new
happened (push batch document) history turn holds is = holds_pushed history batch turn document holds is
happened undone history turn holds is = is history holds
happened redone history turn holds is = is history holds
happened (select selection) history turn holds is = holds_selected history selection turn holds is
happened came_back history turn holds is = holds_back history turn holds is
happened clear history turn holds is = holds_cleared history turn holds is

-- events, one after the other
pub all_happened : (events : List Event) (history : History) (old_lists : Lists) (old : Held) (new_lists : Lists) (new : Held) → Holds history old_lists old
    → AllHappen events old_lists old new_lists new
    → Reaches (after_events events history) new_lists new
all_happened [] history old_lists old new_lists new holds is = subst (λ lists. Holds history lists new) (sym is.0)
    (subst (Holds history old_lists) (sym is.1) holds)
all_happened (event ∷ events) history old_lists old new_lists new holds is =
    go (after_event event history) (happened event history (turn_of old_lists old is.0 is.1) holds is.2)
    (λ then now. all_happened events then is.0 is.1 new_lists new now is.3)
  where
    go : (then : Option History) → Reaches then is.0 is.1 → ((then : History) → Holds then is.0 is.1 → Reaches (after_events events then) new_lists new)
        → Reaches (option_and_then (after_events events) then) new_lists new
    go None now rest = absurd now
    go (Some then) now rest = rest then now
