-- Edits that move nothing: what they name stays there through all of them.
use Rattle.std.proofs.Common.{◌≡◌, ℕ, ◌+◌, Bool, true, false, not, ◌&&◌, if◌then◌else◌, List, [], ◌∷◌, ◌++◌, Option, Some, None, is_some, ok_or, option_map}
use Rattle.std.proofs.Common.{option_and_then, Result, Ok, refl, sym, ap, subst, ◌∙◌}
use Rattle.std.specs.List.{flat_map}
use Rattle.ck_base.specs.declared.value.Value.{Value as AttributeValue}
use Rattle.ck_base.specs.declared.faults.EditFault.{EditFault}
use Rattle.ck_base.specs.declared.faults.EditFault.TheVariants.{NotRegistered, BadTarget}
use Rattle.item_definitions.specs.Item.{Item, character, element, inner}
use Rattle.item_definitions.specs.Children.{parent_of, offset_of, child_count, item_at}
use Rattle.item_definitions.specs.Position.{Range, between, behind, not_after, IsRange}
use Rattle.item_definitions.specs.Shift.{stay, carry_range}
use Rattle.operation_definitions.specs.Operation.{Fault, Operation, insert, move, attribute, rename, split, merge, marker}
use Rattle.operation_definitions.specs.After.{after}
use Rattle.operation_definitions.proofs.Steps.{step-ok}
use Rattle.document_definitions.specs.Selection.{same_position}
use Rattle.document_definitions.specs.Document.{State, changed, applied, all_applied}
use Rattle.document_definitions.specs.Staying.{left_by}
use Rattle.document_definitions.proofs.Ranges.{keeps_ranges}
use Rattle.document_definitions.proofs.Staying.{stay_in_place}
use Rattle.edit_definitions.specs.declared.edit.Edit.{Edit}
use Rattle.edit_definitions.specs.declared.edit.Edit.TheVariants.{InsertText, InsertElement, Remove, Move, SetAttribute, RemoveAttribute, Rename, Split}
use Rattle.edit_definitions.specs.declared.edit.Edit.TheVariants.{Merge, Wrap, Unwrap, AddMarker, UpdateMarker, RemoveMarker, Select, SelectionAttribute}
use Rattle.edit_definitions.specs.declared.edit.Edit.TheVariants.{InsertItems}
use Rattle.edit_definitions.specs.declared.edit.Target.{Target}
use Rattle.edit_definitions.specs.declared.edit.Target.TheVariants.{Range as InRange, Element as OfElement}
use Rattle.edit_definitions.specs.Places.{is_there, is_range, is_element, is_known}
use Rattle.edit_definitions.specs.Runs.{Run, runs_of, items_of_range, attribute_runs, give_in}
use Rattle.edit_definitions.specs.Planned.{◌>>=◌, check, parts_of, given_to, name_of, renaming, operations_of}
use Rattle.edit_definitions.specs.Performed.{as_step, selecting, performed, all_performed}
use Rattle.edit_definitions.proofs.Stay.{there-place, place-there}
use Rattle.command_definitions.specs.Finding.{FindsPlaces}
use Rattle.command_definitions.proofs.Applying.{Tree}
use Rattle.command_definitions.proofs.Performing.{step-made, same-state, same-operations, as-made}
use Rattle.command_definitions.proofs.Finding.{edits-find, rename-finds, set-finds, unset-finds}

-- operations that move nothing
abbrev IsStill : Operation → Type 0
IsStill (attribute range key old new) = Unit {0}
IsStill (rename path old new) = Unit {0}
IsStill (insert position new) = ⊥
IsStill (move from count to) = ⊥
IsStill (split position source) = ⊥
IsStill (merge right target cell) = ⊥
IsStill (marker name old new) = ⊥

abbrev AreStill : List Operation → Type 0
AreStill [] = Unit {0}
AreStill (operation ∷ operations) = IsStill operation × AreStill operations

-- the ranges and the elements of a tree are there in another one
record AllStay (items new : List Item) : Type 0 where
  pub ranges : (start end : List ℕ) → is_range items start end ≡ true → is_range new start end ≡ true
  pub elements : (path : List ℕ) → is_element items path ≡ true → is_element new path ≡ true

three : (a b c : Bool) → a ≡ true → b ≡ true → c ≡ true → (a && b && c) ≡ true
three a b c e f g = (λ t. e t && f t && g t)

parts-true : (a b c : Bool) → (a && b && c) ≡ true → (a ≡ true) × (b ≡ true) × (c ≡ true)
parts-true true true c e = (refl, refl, e)
parts-true true false c e = absurd cc
parts-true false b c e = absurd cc

carried-still : (range : Range) → not_after range.start range.end ≡ true → carry_range stay range ≡ range
carried-still range e = ap (λ t. if not t then between range.start range.start else range) e

range-stays : (items new : List Item) → ((range : Range) → IsRange (child_count items) range → IsRange (child_count new) (carry_range stay range))
    → (start end : List ℕ)
    → is_range items start end ≡ true → is_range new start end ≡ true
range-stays items new keeps start end e =
    let p = parts-true (is_there items start) (is_there items end) (not_after start end) e in
    let h = subst (IsRange (child_count new)) (carried-still (between start end) p.2)
    (keeps (between start end) (there-place items start p.0, there-place items end p.1, p.2)) in
    three (is_there new start) (is_there new end) (not_after start end) (place-there new start h.0) (place-there new end h.1) h.2

start-still : (range : Range) → (carry_range stay range).start ≡ range.start
start-still range = go (not_after range.start range.end)
  where
    go : (t : Bool) → (if not t then between range.start range.start else range).start ≡ range.start
    go true = refl
    go false = refl

-- what an operation leaves of an element is one
element-stays : (left : Item → Item) → ((item : Item) → is_some (name_of (left item)) ≡ is_some (name_of item)) → (items new : List Item) (path : List ℕ)
    → ((item : Item) → item_at path items ≡ Some item → option_map left (item_at path new) ≡ Some (left item)) → is_element items path ≡ true
    → is_element new path ≡ true
element-stays left named items new path stays e = go (item_at path items) refl (item_at path new) refl e
  where
    is_one : (item : Item) → is_some (inner item) ≡ is_some (name_of item)
    is_one (character scalar attributes) = refl
    is_one (element id name attributes children) = refl

    same : (a b : Item) → ◌≡◌ {A = Option Item} (Some a) (Some b) → a ≡ b
    same a b e = cc

    go : (o : Option Item) → item_at path items ≡ o → (n : Option Item) → item_at path new ≡ n → is_some (option_and_then inner o) ≡ true
        → is_some (option_and_then inner n) ≡ true
    go None e n f h = absurd cc
    go (Some item) e None f h = absurd (empty (sym (ap (option_map left) f) ∙ stays item e))
      where
        empty : ◌≡◌ {A = Option Item} None (Some (left item)) → ⊥
        empty e = absurd cc
    go (Some item) e (Some kept) f h =
        is_one kept ∙ sym (named kept) ∙ ap (λ i. is_some (name_of i)) (same (left kept) (left item) (sym (ap (option_map left) f) ∙ stays item e))
        ∙ named item ∙ sym (is_one item) ∙ h

operation-stays : (items : List Item) (cells : List (List Item)) (operation : Operation) (made : Tree) → IsStill operation
    → after items cells operation ≡ Ok made → AllStay items made.0
operation-stays items cells (attribute range key old new) made still e = record {
  ranges = range-stays items made.0 (λ other h. keeps_ranges items cells (attribute range key old new) made other tt e h);
  elements = (λ path. element-stays (left_by (attribute range key old new)) named items made.0 path
      (λ item here. ap (λ p. option_map (left_by (attribute range key old new)) (item_at p made.0)) (sym (start-still (between path (behind path))))
      ∙ stay_in_place items cells (attribute range key old new) made path item tt e here refl));
}
  where
    named : (item : Item) → is_some (name_of (left_by (attribute range key old new) item)) ≡ is_some (name_of item)
    named (character scalar attributes) = refl
    named (element id name attributes children) = refl
operation-stays items cells (rename place old new) made still e = record {
  ranges = range-stays items made.0 (λ range h. keeps_ranges items cells (rename place old new) made range tt e h);
  elements = (λ path. element-stays (left_by (rename place old new)) named items made.0 path
      (λ item here. ap (λ p. option_map (left_by (rename place old new)) (item_at p made.0)) (sym (start-still (between path (behind path))))
      ∙ stay_in_place items cells (rename place old new) made path item tt e here refl));
}
  where
    named : (item : Item) → is_some (name_of (left_by (rename place old new) item)) ≡ is_some (name_of item)
    named (character scalar attributes) = refl
    named (element id name attributes children) = refl
operation-stays items cells (insert position new) made still e = absurd still
operation-stays items cells (move from count to) made still e = absurd still
operation-stays items cells (split position source) made still e = absurd still
operation-stays items cells (merge right target cell) made still e = absurd still
operation-stays items cells (marker name old new) made still e = absurd still

all-stays : (operations : List Operation) (state new : State) → AreStill operations → all_applied operations state ≡ Ok new
    → AllStay state.document.items new.document.items
all-stays [] state new still e =
    let same : state.document.items ≡ new.document.items = ap (λ (s : State). s.document.items) (one state new e) in
    record { ranges = (λ start end h. ap (λ xs. is_range xs start end) (sym same) ∙ h); elements = (λ path h. ap (λ xs. is_element xs path) (sym same) ∙ h) }
  where
    one : (a b : State) → ◌≡◌ {A = Result State Fault} (Ok a) (Ok b) → a ≡ b
    one a b e = cc
all-stays (operation ∷ operations) state new still e =
    let a = step-ok (applied operation state) (all_applied operations) new e in
    let b = step-ok (after state.document.items state.cells operation) (λ (made : Tree). Ok (changed operation state made)) a.0 a.1 in
    let first = operation-stays state.document.items state.cells operation b.0 still.0 b.1 in
    let items : b.0.0 ≡ a.0.document.items = ap (λ (s : State). s.document.items) (one (changed operation state b.0) a.0 b.2) in
    let rest = all-stays operations a.0 new still.1 a.2 in
    record {
      ranges = (λ start end h. rest.ranges start end (ap (λ xs. is_range xs start end) (sym items) ∙ first.ranges start end h));
      elements = (λ path h. rest.elements path (ap (λ xs. is_element xs path) (sym items) ∙ first.elements path h));
    }
  where
    one : (a b : State) → ◌≡◌ {A = Result State Fault} (Ok a) (Ok b) → a ≡ b
    one a b e = cc

-- ---- edits of attributes and names

still-append : (a b : List Operation) → AreStill a → AreStill b → AreStill (a ++ b)
still-append [] b h k = k
still-append (operation ∷ a) b h k = (h.0, still-append a b h.1 k)

runs-still : (parent key : List ℕ) (new : Option AttributeValue) (runs : List Run) → AreStill (attribute_runs parent key new runs)
runs-still parent key new [] = tt
runs-still parent key new (run ∷ runs) = (tt, runs-still parent key new runs)

given-still : (items : List Item) (key : List ℕ) (new : Option AttributeValue) (parts : List Range) → AreStill (flat_map (give_in items key new) parts)
given-still items key new [] = tt
given-still items key new (part ∷ parts) =
    still-append (give_in items key new part) (flat_map (give_in items key new) parts)
    (runs-still (parent_of part.start) key new (runs_of key new (offset_of part.start) (items_of_range items part))) (given-still items key new parts)

-- an edit of an attribute or of a name, whose place is there
abbrev pub IsStillEdit : List Item → Edit → Type 0
IsStillEdit items (SetAttribute (InRange start end) key value) = is_range items start end ≡ true
IsStillEdit items (SetAttribute (OfElement path) key value) = is_element items path ≡ true
IsStillEdit items (RemoveAttribute (InRange start end) key) = is_range items start end ≡ true
IsStillEdit items (RemoveAttribute (OfElement path) key) = is_element items path ≡ true
IsStillEdit items (Rename path name) = is_element items path ≡ true
IsStillEdit items edit = ⊥

abbrev pub AreStillEdits : List Item → List Edit → Type 0
AreStillEdits items [] = Unit {0}
AreStillEdits items (edit ∷ edits) = IsStillEdit items edit × AreStillEdits items edits

pub still-edits-append : (items : List Item) (a b : List Edit) → AreStillEdits items a → AreStillEdits items b → AreStillEdits items (a ++ b)
still-edits-append items [] b h k = k
still-edits-append items (edit ∷ a) b h k = (h.0, still-edits-append items a b h.1 k)

module _ (registered : List ℕ → Bool) where
  given-stays : (number : ℕ) (edit : Edit) (target : Target) (key : List ℕ) (new : Option AttributeValue) (state next : State)
      → (given_to number state.document.items target key new >>= (λ operations. as_step number (all_applied operations state)
      >>= (λ made. Ok (selecting edit made)))) ≡ Ok next
      → ((made : State) → selecting edit made ≡ made) → AllStay state.document.items next.document.items
  given-stays number edit target key new state next e stays =
      let a = step-made (given_to number state.document.items target key new)
      (λ operations. as_step number (all_applied operations state) >>= (λ made. Ok (selecting edit made))) next e in
      let b = step-made (parts_of number state.document.items target) (λ parts. Ok (flat_map (give_in state.document.items key new) parts)) a.0 a.1 in
      let c = step-made (as_step number (all_applied a.0 state)) (λ made. Ok (selecting edit made)) next a.2 in
      all-stays (flat_map (give_in state.document.items key new) b.0) state next (given-still state.document.items key new b.0)
      (ap (λ operations. all_applied operations state) (same-operations (flat_map (give_in state.document.items key new) b.0) a.0 b.2)
      ∙ as-made number (all_applied a.0 state) c.0 c.1
      ∙ ap (λ (s : State). Ok s) (sym (stays c.0) ∙ same-state (selecting edit c.0) next c.2))

  rename-stays : (number : ℕ) (path name : List ℕ) (state next : State) → performed registered number (Rename path name) state ≡ Ok next
      → AllStay state.document.items next.document.items
  rename-stays number path name state next e =
      let last : List Operation → Result State EditFault = λ operations. as_step number (all_applied operations state)
      >>= (λ made. Ok (selecting (Rename path name) made)) in
      let plan : List ℕ → Result (List Operation) EditFault = λ old. Ok (renaming path old name) in
      let a = step-made (operations_of registered number (Rename path name) state) last next e in
      let b = step-made (check (is_known registered name) (NotRegistered number name))
      (λ _. ok_or (option_and_then name_of (item_at path state.document.items)) (BadTarget number path) >>= plan) a.0 a.1 in
      let c = step-made (ok_or (option_and_then name_of (item_at path state.document.items)) (BadTarget number path)) plan a.0 b.2 in
      let d = step-made (as_step number (all_applied a.0 state)) (λ made. Ok (selecting (Rename path name) made)) next a.2 in
      all-stays (renaming path c.0 name) state next (still (same_position c.0 name) c.0)
      (ap (λ operations. all_applied operations state) (same-operations (renaming path c.0 name) a.0 c.2) ∙ as-made number (all_applied a.0 state) d.0 d.1
      ∙ ap (λ (s : State). Ok s) (same-state d.0 next d.2))
    where
      still : (t : Bool) (old : List ℕ) → AreStill (if t then [] else rename path old name ∷ [])
      still true old = tt
      still false old = (tt, tt)

  kept : (items new : List Item) (edit : Edit) → AllStay items new → IsStillEdit items edit → IsStillEdit new edit
  kept items new (SetAttribute (InRange start end) key value) same h = same.ranges start end h
  kept items new (SetAttribute (OfElement path) key value) same h = same.elements path h
  kept items new (RemoveAttribute (InRange start end) key) same h = same.ranges start end h
  kept items new (RemoveAttribute (OfElement path) key) same h = same.elements path h
  kept items new (Rename path name) same h = same.elements path h
  kept items new (InsertText at text attributes) same h = h
  kept items new (InsertElement at name attributes) same h = h
  kept items new (Remove start end) same h = h
  kept items new (Move start end to) same h = h
  kept items new (Split at) same h = h
  kept items new (Merge at) same h = h
  kept items new (Wrap start end name attributes) same h = h
  kept items new (Unwrap path) same h = h
  kept items new (AddMarker name start end) same h = h
  kept items new (UpdateMarker name start end) same h = h
  kept items new (RemoveMarker name) same h = h
  kept items new (Select start end backward) same h = h
  kept items new (SelectionAttribute key value) same h = h
  kept items new (InsertItems at added) same h = h

  all-kept : (items new : List Item) (edits : List Edit) → AllStay items new → AreStillEdits items edits → AreStillEdits new edits
  all-kept items new [] same h = tt
  all-kept items new (edit ∷ edits) same h = (kept items new edit same h.0, all-kept items new edits same h.1)

  named : (items : List Item) (path : List ℕ) → is_element items path ≡ true → is_some (option_and_then name_of (item_at path items)) ≡ true
  named items path e = go (item_at path items) e
    where
      go : (o : Option Item) → is_some (option_and_then inner o) ≡ true → is_some (option_and_then name_of o) ≡ true
      go None e = absurd cc
      go (Some (character scalar attributes)) e = absurd cc
      go (Some (element id name attributes children)) e = refl

  -- one such edit
  one-finds : (number : ℕ) (edit : Edit) (state : State) → IsStillEdit state.document.items edit → FindsPlaces (performed registered number edit state)
  one-finds number (SetAttribute (InRange start end) key value) state h = set-finds registered number state (InRange start end) key value h
  one-finds number (SetAttribute (OfElement path) key value) state h = set-finds registered number state (OfElement path) key value h
  one-finds number (RemoveAttribute (InRange start end) key) state h = unset-finds registered number state (InRange start end) key h
  one-finds number (RemoveAttribute (OfElement path) key) state h = unset-finds registered number state (OfElement path) key h
  one-finds number (Rename path name) state h = rename-finds registered number state path name (named state.document.items path h)
  one-finds number (InsertText at text attributes) state h = absurd h
  one-finds number (InsertElement at name attributes) state h = absurd h
  one-finds number (Remove start end) state h = absurd h
  one-finds number (Move start end to) state h = absurd h
  one-finds number (Split at) state h = absurd h
  one-finds number (Merge at) state h = absurd h
  one-finds number (Wrap start end name attributes) state h = absurd h
  one-finds number (Unwrap path) state h = absurd h
  one-finds number (AddMarker name start end) state h = absurd h
  one-finds number (UpdateMarker name start end) state h = absurd h
  one-finds number (RemoveMarker name) state h = absurd h
  one-finds number (Select start end backward) state h = absurd h
  one-finds number (SelectionAttribute key value) state h = absurd h
  one-finds number (InsertItems at added) state h = absurd h

  one-stays : (number : ℕ) (edit : Edit) (state next : State) → IsStillEdit state.document.items edit → performed registered number edit state ≡ Ok next
      → AllStay state.document.items next.document.items
  one-stays number (SetAttribute target key value) state next h e = given-stays number (SetAttribute target key value) target key (Some value) state next e
      (λ made. refl)
  one-stays number (RemoveAttribute target key) state next h e = given-stays number (RemoveAttribute target key) target key None state next e (λ made. refl)
  one-stays number (Rename path name) state next h e = rename-stays number path name state next e
  one-stays number (InsertText at text attributes) state next h e = absurd h
  one-stays number (InsertElement at name attributes) state next h e = absurd h
  one-stays number (Remove start end) state next h e = absurd h
  one-stays number (Move start end to) state next h e = absurd h
  one-stays number (Split at) state next h e = absurd h
  one-stays number (Merge at) state next h e = absurd h
  one-stays number (Wrap start end name attributes) state next h e = absurd h
  one-stays number (Unwrap path) state next h e = absurd h
  one-stays number (AddMarker name start end) state next h e = absurd h
  one-stays number (UpdateMarker name start end) state next h e = absurd h
  one-stays number (RemoveMarker name) state next h e = absurd h
  one-stays number (Select start end backward) state next h e = absurd h
  one-stays number (SelectionAttribute key value) state next h e = absurd h
  one-stays number (InsertItems at added) state next h e = absurd h

  pub still-edits-find : (number : ℕ) (edits : List Edit) (state : State) → AreStillEdits state.document.items edits
      → FindsPlaces (all_performed registered number edits state)
  still-edits-find number [] state h = tt
  still-edits-find number (edit ∷ edits) state h =
      edits-find registered number edit edits state (one-finds number edit state h.0)
      (λ next e. still-edits-find (number + 1) edits next (all-kept state.document.items next.document.items edits (one-stays number edit state next h.0 e)
      h.1))
