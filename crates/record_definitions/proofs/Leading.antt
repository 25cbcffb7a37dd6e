-- The records of an edit lead back from the document that it makes.
use Rattle.std.proofs.Common.{◌≡◌, ℕ, ◌+◌, Bool, true, false, not, ◌&&◌, List, [], ◌∷◌, ◌++◌, length, reverse, Option, IsTrue, Result, Ok, Err, refl}
use Rattle.std.proofs.Common.{sym, ap, ◌∙◌, subst, arith, append_assoc, append-nil}
use Rattle.ck_base.specs.declared.faults.EditFault.{EditFault}
use Rattle.ck_base.specs.declared.faults.EditFault.TheVariants.{BadRange}
use Rattle.ck_base.specs.declared.value.Value.{Value as AttributeValue}
use Rattle.ck_base.specs.Entries.{IsOrdered}
use Rattle.ck_base.proofs.Ordered.{ordered_with_value}
use Rattle.item_definitions.specs.Item.{Item}
use Rattle.item_definitions.specs.Position.{between}
use Rattle.operation_definitions.specs.Operation.{Fault, Operation}
use Rattle.operation_definitions.proofs.Steps.{step-ok}
use Rattle.document_definitions.specs.Document.{State, with_selection, applied, all_applied}
use Rattle.document_definitions.specs.Selection.{Selection, is_collapsed, selected, with_override}
use Rattle.document_definitions.specs.Sound.{IsSound, IsSelection}
use Rattle.document_definitions.proofs.Soundness.{keeps_soundness}
use Rattle.edit_definitions.specs.declared.edit.Edit.{Edit}
use Rattle.edit_definitions.specs.declared.edit.Edit.TheVariants.{InsertText, InsertElement, Remove, Move, SetAttribute, RemoveAttribute, Rename, Split, Merge}
use Rattle.edit_definitions.specs.declared.edit.Edit.TheVariants.{Wrap, Unwrap, AddMarker, UpdateMarker, RemoveMarker, Select, SelectionAttribute, InsertItems}
use Rattle.edit_definitions.specs.Places.{is_range}
use Rattle.edit_definitions.specs.Planned.{◌>>=◌, check, operations_of}
use Rattle.edit_definitions.specs.Performed.{as_step, selecting, performed}
use Rattle.model_doc.specs.Conditions.{AreWelcome}
use Rattle.model_doc.specs.Held.{Moment, returned}
use Rattle.model_doc.specs.Records.{Done, done_on, recorded, records_of, AreSame}
use Rattle.model_doc.proofs.Led.{led_to}
use Rattle.model_writer.proofs.Welcome.{range_there, planned_welcome}
use Rattle.undo_stack.specs.Chains.{IsFrom, LedBack}
use Rattle.undo_stack.proofs.Moments.{from_self, led_more, back_on}
use Rattle.record_definitions.specs.Traced.{IsFit, IsOneEdit}
use Rattle.record_definitions.proofs.Brings.{AllBring, planned_brings}
use Rattle.record_definitions.proofs.Orders.{KeepsOrder, AreInOrder, planned_in_order}

-- the moment of a state
abbrev at : State → ℕ → Moment
at state mark = record { state = state; mark = mark }

-- operations, one after the other
record Leads-on (start : Moment) (records : List Done) (made : State) (mark : ℕ) : Type 0 where
  led : LedBack start (reverse records) (at made mark)
  fit : IsFit made

all-led : (start : Moment) (operations : List Operation) (before : List Done) (state made : State) (mark : ℕ) → IsSound state → AreWelcome operations state
    → AllBring operations → AreInOrder operations state → all_applied operations state ≡ Ok made → LedBack start (reverse before) (at state mark)
    → Leads-on start (before ++ records_of operations state mark) made (mark + length operations)
all-led start [] before state made mark sound welcome brings ordered e led =
    let same : state ≡ made = cc in
    let still : mark ≡ mark + 0 = omega arith in
    subst (λ (s : State). Leads-on start (before ++ []) s (mark + 0)) same (record {
      led = subst (λ rs. LedBack start (reverse rs) (at state (mark + 0))) (sym (append-nil before))
          (subst (λ n. LedBack start (reverse before) (at state n)) still led);
      fit = record { sound = sound; ordered = ordered };
    })
all-led start (operation ∷ operations) before state made mark sound welcome brings ordered e led =
    let one = step-ok (applied operation state) (all_applied operations) made e in
    let done = done_on state operation one.0 (mark + 1) in
    let leads = led_to state one.0 operation done (returned (at one.0 (mark + 1))) sound ordered.0 brings.0.1 (omega arith) one.1 refl refl in
    let here = led_more start before done (returned (at state mark)) (returned (at one.0 (mark + 1))) led welcome.0 leads refl in
    let rest = all-led start operations (before ++ done ∷ []) one.0 made (mark + 1)
    (keeps_soundness operation state one.0 sound brings.0.1 welcome.0 one.1) (welcome.1 one.0 one.1) brings.1 (ordered.1 one.0 one.1) one.2 here in
    let all : (before ++ done ∷ []) ++ records_of operations one.0 (mark + 1) ≡ before ++ records_of (operation ∷ operations) state mark =
    append_assoc before (done ∷ []) (records_of operations one.0 (mark + 1))
    ∙ ap (λ r. before ++ recorded state operation mark (λ made. records_of operations made (mark + 1)) r) (sym one.1) in
    let up : mark + 1 + length operations ≡ mark + length (operation ∷ operations) = omega arith in
    subst (λ rs. Leads-on start rs made (mark + length (operation ∷ operations))) all
    (subst (λ n. Leads-on start ((before ++ done ∷ []) ++ records_of operations one.0 (mark + 1)) made n) up rest)

same-cells : (cells : List (List Item)) → AreSame cells cells
same-cells cells = ((λ n. refl), omega arith)

-- the selection becomes another one
chosen-from : (selection : Selection) (state : State) (mark : ℕ) → IsFrom (at state mark) (at (with_selection selection state) mark)
chosen-from selection state mark = record { reached = (refl, refl, refl, same-cells state.cells); mark = refl }

chosen-fit : (selection : Selection) (state : State) → IsFit state → IsSelection state.document.items selection → IsOrdered selection.overrides
    → IsFit (with_selection selection state)
chosen-fit selection state fit there keyed = record {
  sound = record {
    distinct = fit.sound.distinct;
    drawn = fit.sound.drawn;
    next = fit.sound.next;
    some = fit.sound.some;
    markers = fit.sound.markers;
    named = fit.sound.named;
    selection = there;
    keyed = keyed;
    limited = fit.sound.limited;
  };
  ordered = fit.ordered;
}

forward : (collapsed backward : Bool) → IsTrue collapsed → (backward && not collapsed) ≡ false
forward true true h = refl
forward true false h = refl
forward false true h = absurd cc
forward false false h = refl

-- an edit leaves the selection to its operations, or it selects, or it overrides
by-kind : (P : Edit → Type 0) → ((edit : Edit) → ((state : State) → selecting edit state ≡ state) → P edit)
    → ((start end : List ℕ) (backward : Bool) → P (Select start end backward))
    → ((key : List ℕ) (value : Option AttributeValue) → P (SelectionAttribute key value)) → (edit : Edit) → P edit
by-kind P plain select override (InsertText at text attributes) = plain (InsertText at text attributes) (λ state. refl)
by-kind P plain select override (InsertElement at name attributes) = plain (InsertElement at name attributes) (λ state. refl)
by-kind P plain select override (Remove start end) = plain (Remove start end) (λ state. refl)
by-kind P plain select override (Move start end to) = plain (Move start end to) (λ state. refl)
by-kind P plain select override (SetAttribute target key value) = plain (SetAttribute target key value) (λ state. refl)
by-kind P plain select override (RemoveAttribute target key) = plain (RemoveAttribute target key) (λ state. refl)
by-kind P plain select override (Rename path name) = plain (Rename path name) (λ state. refl)
by-kind P plain select override (Split at) = plain (Split at) (λ state. refl)
by-kind P plain select override (Merge at) = plain (Merge at) (λ state. refl)
by-kind P plain select override (Wrap start end name attributes) = plain (Wrap start end name attributes) (λ state. refl)
by-kind P plain select override (Unwrap path) = plain (Unwrap path) (λ state. refl)
by-kind P plain select override (AddMarker name start end) = plain (AddMarker name start end) (λ state. refl)
by-kind P plain select override (UpdateMarker name start end) = plain (UpdateMarker name start end) (λ state. refl)
by-kind P plain select override (RemoveMarker name) = plain (RemoveMarker name) (λ state. refl)
by-kind P plain select override (Select start end backward) = select start end backward
by-kind P plain select override (SelectionAttribute key value) = override key value
by-kind P plain select override (InsertItems at items) = plain (InsertItems at items) (λ state. refl)

selected-range : (registered : List ℕ → Bool) (number : ℕ) (start end : List ℕ) (backward : Bool) (state : State) (operations : List Operation)
    → operations_of registered number (Select start end backward) state ≡ Ok operations
    → (is_range state.document.items start end ≡ true) × (operations ≡ [])
selected-range registered number start end backward state operations e = go (is_range state.document.items start end) e
  where
    go : (t : Bool) → (check t (BadRange number start end) >>= (λ _. Ok [])) ≡ Ok operations → (t ≡ true) × (operations ≡ [])
    go true e = (let none : ◌≡◌ {A = Result (List Operation) EditFault} (Ok []) (Ok operations) = e in (refl, cc))
    go false e = absurd cc

no-operations : (operations : List Operation) (state made : State) → operations ≡ [] → all_applied operations state ≡ Ok made → state ≡ made
no-operations [] state made none e = cc
no-operations (operation ∷ operations) state made none e = absurd cc

-- what an edit makes of the document that its operations have made
record Chosen (made new : State) : Type 0 where
  from : (mark : ℕ) → IsFrom (at made mark) (at new mark)
  fit : IsFit made → IsFit new

as-chosen : (registered : List ℕ → Bool) (number : ℕ) (edit : Edit) (state made : State) (operations : List Operation)
    → operations_of registered number edit state ≡ Ok operations → all_applied operations state ≡ Ok made → Chosen made (selecting edit made)
as-chosen registered number edit state made = by-kind
    (λ edit. (operations : List Operation) → operations_of registered number edit state ≡ Ok operations → all_applied operations state ≡ Ok made
    → Chosen made (selecting edit made))
    (λ edit same operations planned e. subst (Chosen made) (sym (same made)) (record { from = λ mark. from_self (at made mark); fit = λ fit. fit }))
    (λ start end backward operations planned e.
    let is = selected-range registered number start end backward state operations planned in
    let here : state ≡ made = no-operations operations state made is.1 e in
    let range = between start end in
    record {
      from = chosen-from (selected range backward) made;
      fit = λ fit. chosen-fit (selected range backward) made fit (
        range_there made.document.items start end (ap (λ (s : State). is_range s.document.items start end) (sym here) ∙ is.0),
        forward (is_collapsed range) backward,
      ) refl;
    })
    (λ key value operations planned e. record {
      from = chosen-from (with_override key value made.document.selection) made;
      fit = λ fit. chosen-fit (with_override key value made.document.selection) made fit fit.sound.selection
          (ordered_with_value key value made.document.selection.overrides fit.sound.keyed);
    }) edit

edit-step : {A B : Type 0} (r : Result A EditFault) (next : A → Result B EditFault) (b : B) → (r >>= next) ≡ Ok b → (a : A) × (r ≡ Ok a) × (next a ≡ Ok b)
edit-step (Ok a) next b e = (a, refl, e)
edit-step (Err fault) next b e = absurd cc

was-applied : (number : ℕ) (r : Result State Fault) (made : State) → as_step number r ≡ Ok made → r ≡ Ok made
was-applied number (Ok state) made e = (let same : state ≡ made = cc in ap Ok same)
was-applied number (Err fault) made e = absurd cc

-- the operations of an edit that was performed, and the selection
pub parts-made : (registered : List ℕ → Bool) (number : ℕ) (edit : Edit) (state new : State) (operations : List Operation)
    → operations_of registered number edit state ≡ Ok operations → performed registered number edit state ≡ Ok new
    → (made : State) × (all_applied operations state ≡ Ok made) × (selecting edit made ≡ new)
parts-made registered number edit state new operations planned e =
    let after : List Operation → Result State EditFault =
    λ operations. as_step number (all_applied operations state) >>= (λ made. Ok (selecting edit made)) in
    let here : after operations ≡ Ok new = sym (ap (λ (r : Result (List Operation) EditFault). r >>= after) planned) ∙ e in
    let one = edit-step (as_step number (all_applied operations state)) (λ made. Ok (selecting edit made)) new here in
    let same : selecting edit one.0 ≡ new = cc in
    (one.0, was-applied number (all_applied operations state) one.0 one.1, same)

module _ (keeps_order : KeepsOrder) (registered : List ℕ → Bool) (number : ℕ) (edit : Edit) (start : Moment) (before records : List Done) (old new : Moment)
    (fit : IsFit old.state) (one : IsOneEdit registered number edit old records new) (led : LedBack start (reverse before) old) where
  leads-on : Leads-on start (before ++ records) new.state new.mark
  leads-on =
      let parts = parts-made registered number edit old.state new.state one.operations one.planned one.made in
      let chosen = as-chosen registered number edit old.state parts.0 one.operations one.planned parts.1 in
      let on = all-led start one.operations before old.state parts.0 old.mark fit.sound
      (planned_welcome registered number edit old.state one.operations fit.sound one.planned)
      (planned_brings registered number edit old.state one.operations one.orderly one.planned)
      (planned_in_order keeps_order registered number edit old.state one.operations one.orderly fit.ordered one.planned) parts.1 led in
      let last : Leads-on start (before ++ records_of one.operations old.state old.mark) (selecting edit parts.0) (old.mark + length one.operations) = record {
        led = back_on start (reverse (before ++ records_of one.operations old.state old.mark)) (at parts.0 (old.mark + length one.operations))
            (at (selecting edit parts.0) (old.mark + length one.operations)) (chosen.from (old.mark + length one.operations)) on.led;
        fit = chosen.fit on.fit;
      } in
      subst (λ rs. Leads-on start (before ++ rs) new.state new.mark) (sym one.left)
      (subst (λ n. Leads-on start (before ++ records_of one.operations old.state old.mark) new.state n) (sym one.mark)
      (subst (λ s. Leads-on start (before ++ records_of one.operations old.state old.mark) s (old.mark + length one.operations)) parts.2 last))

-- an edit leads on
pub edit_leads : KeepsOrder → (registered : List ℕ → Bool) (number : ℕ) (edit : Edit) (start : Moment) (before records : List Done) (old new : Moment)
    → IsFit old.state → IsOneEdit registered number edit old records new → LedBack start (reverse before) old → LedBack start (reverse (before ++ records)) new
edit_leads keeps_order registered number edit start before records old new fit one led =
    (leads-on keeps_order registered number edit start before records old new fit one led).led

pub edit_fits : KeepsOrder → (registered : List ℕ → Bool) (number : ℕ) (edit : Edit) (records : List Done) (old new : Moment) → IsFit old.state
    → IsOneEdit registered number edit old records new → IsFit new.state
edit_fits keeps_order registered number edit records old new fit one =
    (leads-on keeps_order registered number edit old [] records old new fit one (from_self old)).fit

none-recorded : (operations : List Operation) (state made : State) (mark : ℕ) → all_applied operations state ≡ Ok made → records_of operations state mark ≡ []
    → operations ≡ []
none-recorded [] state made mark e none = refl
none-recorded (operation ∷ operations) state made mark e none =
    let one = step-ok (applied operation state) (all_applied operations) made e in
    let some = sym (ap (recorded state operation mark (λ made. records_of operations made (mark + 1))) one.1) ∙ none in
    absurd cc

-- no records are of no operations
pub nothing_recorded : (registered : List ℕ → Bool) (number : ℕ) (edit : Edit) (old new : Moment) → IsOneEdit registered number edit old [] new → IsFrom old new
nothing_recorded registered number edit old new one =
    let parts = parts-made registered number edit old.state new.state one.operations one.planned one.made in
    let chosen = as-chosen registered number edit old.state parts.0 one.operations one.planned parts.1 in
    let none = none-recorded one.operations old.state parts.0 old.mark parts.1 (sym one.left) in
    let here : old.state ≡ parts.0 = no-operations one.operations old.state parts.0 none parts.1 in
    let mark : old.mark ≡ new.mark = still old.mark (length one.operations) (ap length none) ∙ sym one.mark in
    subst (λ n. IsFrom old (at new.state n)) mark (subst (λ s. IsFrom old (at s old.mark)) parts.2
    (subst (λ s. IsFrom (at s old.mark) (at (selecting edit parts.0) old.mark)) (sym here) (chosen.from old.mark)))
  where
    still : (mark count : ℕ) → count ≡ 0 → mark ≡ mark + count
    still mark count none = omega (arith, none)
