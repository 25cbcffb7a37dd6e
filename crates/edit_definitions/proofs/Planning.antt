-- Each edit's plan can be made, but for the limits on the tree.
use Rattle.std.proofs.Common.{◌≡◌, ◌≢◌, ℕ, ◌+◌, ◌^◌, Bool, true, false, not, nat_le, nat_lt, ◌&&◌, ◌==◌, if◌then◌else◌, List, [], ◌∷◌, ◌++◌, map, reverse}
use Rattle.std.proofs.Common.{length, Option, Some, None, is_none, option_and_then, unwrap_or, ok_or, Result, Ok, Err, refl, sym, subst}
use Rattle.std.specs.List.{flat_map}
use Rattle.ck_base.specs.declared.value.Value.{Value as AttributeValue}
use Rattle.ck_base.specs.declared.faults.EditFault.{EditFault}
use Rattle.ck_base.specs.declared.faults.EditFault.TheVariants.{NotRegistered, BadPosition, BadRange, BadTarget, MarkerExists, MarkerUnknown, IdsSpent}
use Rattle.ck_base.specs.declared.faults.EditFault.TheVariants.{NoMemory}
use Rattle.ck_base.specs.Entries.{value_of}
use Rattle.item_definitions.specs.Item.{Item, character}
use Rattle.item_definitions.specs.Children.{offset_of, child_count, item_at}
use Rattle.item_definitions.specs.Position.{Range, between, behind, path_before}
use Rattle.item_definitions.specs.FlatParts.{flat_parts}
use Rattle.operation_definitions.specs.Operation.{Fault, no_place, not_flat, into_itself, old_differs, not_neighbours, cell_state, too_large, too_deep}
use Rattle.operation_definitions.specs.Operation.{Operation, in_tree, in_cell, fresh, insert, move, rename, split, merge, marker}
use Rattle.document_definitions.specs.Selection.{same_position, same_range}
use Rattle.document_definitions.specs.Document.{State, ids_of, all_applied}
use Rattle.document_definitions.specs.Sound.{IsSound}
use Rattle.edit_definitions.specs.declared.edit.Edit.{Edit}
use Rattle.edit_definitions.specs.declared.edit.Edit.TheVariants.{InsertText, InsertElement, Remove, Move, SetAttribute, RemoveAttribute, Rename, Split, Merge}
use Rattle.edit_definitions.specs.declared.edit.Edit.TheVariants.{Wrap, Unwrap, AddMarker, UpdateMarker, RemoveMarker, Select, SelectionAttribute, InsertItems}
use Rattle.edit_definitions.specs.declared.edit.Target.{Target}
use Rattle.edit_definitions.specs.declared.edit.Target.TheVariants.{Range as InRange, Element as OfElement}
use Rattle.edit_definitions.specs.Places.{is_there, is_range, are_in_one, is_element, is_between, is_known}
use Rattle.edit_definitions.specs.Runs.{give_in, with_ids}
use Rattle.edit_definitions.specs.Planned.{◌>>=◌, check, ids_left, count_in, insertion, empty_element, removals, moved_run, parts_of, given_to, name_of}
use Rattle.edit_definitions.specs.Planned.{renaming, unknown_in, known_names, marker_of, operations_of}
use Rattle.edit_definitions.specs.Applied.{AreApplied, IsTold}
use Rattle.edit_definitions.specs.Performed.{as_step, selecting, performed}
use Rattle.edit_definitions.proofs.Works.{one-applied, insert-works, split-works, rename-works, merge-works}
use Rattle.edit_definitions.proofs.Stay.{element-part}
use Rattle.ck_base.proofs.Common.{first_and_second}
use Rattle.edit_definitions.proofs.Moved.{moved-applied, wrapped-applied, unwrapped-applied}
use Rattle.edit_definitions.proofs.Removed.{AreThere, AreFlat, AreForward, parts-there, removed-applied}
use Rattle.edit_definitions.proofs.Attributed.{spots_of, spots-changed, spots-fit, spots-far, changes-applied}

-- a fault that isn't for want of memory
abbrev IsToldIn : {A : Type 0} → Result A EditFault → Type 0
IsToldIn (Ok a) = Unit {0}
IsToldIn (Err fault) = IsTold fault

told-names : (edit : ℕ) (name : Option (List ℕ)) → IsToldIn (known_names edit name)
told-names edit None = tt
told-names edit (Some name) = tt

-- what is planned, where an edit can be made
abbrev Applies : State → Result (List Operation) EditFault → Type 0
Applies state (Ok operations) = AreApplied (all_applied operations state)
Applies state (Err fault) = IsTold fault

after-check : (state : State) (b : Bool) (fault : EditFault) → IsTold fault → (next : Unit {0} → Result (List Operation) EditFault)
    → (b ≡ true → Applies state (next tt)) → Applies state (check b fault >>= next)
after-check state true fault told next h = h refl
after-check state false fault told next h = told

after-some : {A : Type 0} (state : State) (o : Option A) (fault : EditFault) → IsTold fault → (next : A → Result (List Operation) EditFault)
    → ((a : A) → o ≡ Some a → Applies state (next a)) → Applies state (ok_or o fault >>= next)
after-some state None fault told next h = told
after-some state (Some a) fault told next h = h a refl

after-all : {A : Type 0} (state : State) (r : Result A EditFault) → IsToldIn r → (next : A → Result (List Operation) EditFault)
    → ((a : A) → r ≡ Ok a → Applies state (next a)) → Applies state (r >>= next)
after-all state (Ok a) told next h = h a refl
after-all state (Err fault) told next h = told

-- items that come in
inserted : (state : State) (at : List ℕ) (items : List Item) → is_there state.document.items at ≡ true → AreApplied (all_applied (insertion at items) state)
inserted state at [] there = tt
inserted state at (item ∷ items) there = one-applied (insert at (item ∷ items)) state (insert-works state.document.items state.cells at (item ∷ items) there)

-- a marker's operation leaves the items
marked : (state : State) (name : List ℕ) (old new : Option Range) → AreApplied (all_applied (marker name old new ∷ []) state)
marked state name old new = one-applied (marker name old new) state ((state.document.items, state.cells), refl)

-- the parts whose items change are there, flat and in order
abbrev HasParts : List Item → Result (List Range) EditFault → Type 0
HasParts items (Ok parts) = AreThere (child_count items) parts × AreFlat parts × AreForward parts
HasParts items (Err fault) = IsTold fault

found-parts : (edit : ℕ) (items : List Item) (target : Target) → HasParts items (parts_of edit items target)
found-parts edit items (InRange start end) = go (is_range items start end) refl
  where
    go : (t : Bool) → is_range items start end ≡ t
        → HasParts items (check t (BadRange edit start end) >>= (λ _. Ok (flat_parts (child_count items) (between start end))))
    go true e = (let p = parts-there items start end e in (p.there, p.flat, p.forward))
    go false e = tt
found-parts edit items (OfElement path) = go (is_element items path) refl
  where
    go : (t : Bool) → is_element items path ≡ t → HasParts items (check t (BadTarget edit path) >>= (λ _. Ok (between path (behind path) ∷ [])))
    go true e = (let p = element-part items path e in (((p.first, p.last), tt), ((p.flat, p.ordered), tt), (tt, tt)))
    go false e = tt

given : (edit : ℕ) (target : Target) (key : List ℕ) (new : Option AttributeValue) (state : State)
    → Applies state (given_to edit state.document.items target key new)
given edit target key new state = go (parts_of edit state.document.items target) (found-parts edit state.document.items target)
  where
    go : (r : Result (List Range) EditFault) → HasParts state.document.items r
        → Applies state (r >>= (λ parts. Ok (flat_map (give_in state.document.items key new) parts)))
    go (Ok parts) h =
        subst (λ operations. AreApplied (all_applied operations state)) (sym (spots-changed key new state.document.items parts))
        (changes-applied key new (spots_of key new state.document.items parts) state (spots-fit key new state.document.items parts h.0 h.1)
        (spots-far key new state.document.items parts h.0 h.1 h.2))
    go (Err fault) h = h

planned : (registered : List ℕ → Bool) (number : ℕ) (edit : Edit) (state : State) → IsSound state → Applies state (operations_of registered number edit state)
planned registered number (InsertText at text attributes) state sound =
    after-check state (is_there state.document.items at) (BadPosition number at) tt
    (λ _. Ok (insertion at (map (λ scalar. character scalar attributes) text))) (inserted state at (map (λ scalar. character scalar attributes) text))
planned registered number (InsertElement at name attributes) state sound =
    let last : Unit {0} → Result (List Operation) EditFault = λ _. Ok (insertion at (empty_element state.document.next_id name attributes)) in
    let next : Unit {0} → Result (List Operation) EditFault = λ _. ids_left number 1 state >>= last in
    after-check state (is_known registered name) (NotRegistered number name) tt (λ _. check (is_there state.document.items at) (BadPosition number at) >>= next)
    (λ _. after-check state (is_there state.document.items at) (BadPosition number at) tt next
    (λ there. after-check state (nat_le (state.document.next_id + 1) (2 ^ 63)) (IdsSpent number) tt last
    (λ _. inserted state at (empty_element state.document.next_id name attributes) there)))
planned registered number (Remove start end) state sound =
    after-check state (is_range state.document.items start end) (BadRange number start end) tt
    (λ _. Ok (removals (length state.cells) (reverse (flat_parts (child_count state.document.items) (between start end))))) (removed-applied state start end)
planned registered number (Move start end to) state sound =
    let last : Unit {0} → Result (List Operation) EditFault = λ _. Ok (moved_run start end to) in
    let next : Unit {0} → Result (List Operation) EditFault = λ _. check (not (is_between start end to)) (BadTarget number to) >>= last in
    after-check state (is_there state.document.items to) (BadPosition number to) tt
    (λ _. check (is_range state.document.items start end && are_in_one start end) (BadRange number start end) >>= next)
    (λ there. after-check state (is_range state.document.items start end && are_in_one start end) (BadRange number start end) tt next
    (λ range. after-check state (not (is_between start end to)) (BadTarget number to) tt last (moved-applied state start end to sound.limited there range)))
planned registered number (SetAttribute target key value) state sound = given number target key (Some value) state
planned registered number (RemoveAttribute target key) state sound = given number target key None state
planned registered number (Rename path name) state sound =
    let last : List ℕ → Result (List Operation) EditFault = λ old. Ok (renaming path old name) in
    after-check state (is_known registered name) (NotRegistered number name) tt
    (λ _. ok_or (option_and_then name_of (item_at path state.document.items)) (BadTarget number path) >>= last)
    (λ _. after-some state (option_and_then name_of (item_at path state.document.items)) (BadTarget number path) tt last
    (λ old named. go (same_position old name) old named))
  where
    go : (t : Bool) (old : List ℕ) → option_and_then name_of (item_at path state.document.items) ≡ Some old
        → AreApplied (all_applied (if t then [] else rename path old name ∷ []) state)
    go true old named = tt
    go false old named = one-applied (rename path old name) state (rename-works state.document.items state.cells path old name named)
planned registered number (Split at) state sound =
    let last : Unit {0} → Result (List Operation) EditFault = λ _. Ok (split at (fresh state.document.next_id) ∷ []) in
    let next : Unit {0} → Result (List Operation) EditFault = λ _. ids_left number 1 state >>= last in
    after-check state (is_there state.document.items at) (BadPosition number at) tt (λ _. check (nat_le 2 (length at)) (BadTarget number at) >>= next)
    (λ there. after-check state (nat_le 2 (length at)) (BadTarget number at) tt next
    (λ inside. after-check state (nat_le (state.document.next_id + 1) (2 ^ 63)) (IdsSpent number) tt last
    (λ _. one-applied (split at (fresh state.document.next_id)) state (split-works state.document.items state.cells at state.document.next_id there inside))))
planned registered number (Merge at) state sound =
    let first = nat_lt 0 (offset_of at) && is_element state.document.items (path_before at) in
    let two = first && is_element state.document.items at in
    let only = merge at (path_before at ++ unwrap_or (child_count state.document.items (path_before at)) 0 ∷ []) (length state.cells) in
    after-check state (is_there state.document.items at) (BadPosition number at) tt (λ _. check two (BadTarget number at) >>= (λ _. Ok (only ∷ [])))
    (λ there. after-check state two (BadTarget number at) tt (λ _. Ok (only ∷ []))
    (λ e.
    let a = first_and_second first (is_element state.document.items at) e in
    let b = first_and_second (nat_lt 0 (offset_of at)) (is_element state.document.items (path_before at)) a.0 in
    one-applied only state (merge-works state.document.items state.cells at there b.0 b.1 a.1)))
planned registered number (Wrap start end name attributes) state sound =
    let run = move (in_tree start) (count_in start end) (in_tree (end ++ 0 ∷ [])) in
    let last : Unit {0} → Result (List Operation) EditFault = λ _. Ok (insertion end (empty_element state.document.next_id name attributes)
    ++ (if same_position start end then [] else run ∷ [])) in
    let next : Unit {0} → Result (List Operation) EditFault = λ _. ids_left number 1 state >>= last in
    after-check state (is_known registered name) (NotRegistered number name) tt
    (λ _. check (is_range state.document.items start end && are_in_one start end) (BadRange number start end) >>= next)
    (λ _. after-check state (is_range state.document.items start end && are_in_one start end) (BadRange number start end) tt next
    (λ range. after-check state (nat_le (state.document.next_id + 1) (2 ^ 63)) (IdsSpent number) tt last
    (λ _. wrapped-applied state start end name attributes range)))
planned registered number (Unwrap path) state sound =
    let count = unwrap_or (child_count state.document.items path) 0 in
    after-check state (is_element state.document.items path) (BadTarget number path) tt
    (λ _. Ok ((if count == 0 then [] else move (in_tree (path ++ 0 ∷ [])) count (in_tree (behind path)) ∷ [])
    ++ move (in_tree path) 1 (in_cell (length state.cells)) ∷ [])) (unwrapped-applied state path sound.limited)
planned registered number (AddMarker name start end) state sound =
    let last : Unit {0} → Result (List Operation) EditFault = λ _. Ok (marker name None (Some (between start end)) ∷ []) in
    after-check state (is_range state.document.items start end) (BadRange number start end) tt
    (λ _. check (is_none (value_of name state.document.markers)) (MarkerExists number name) >>= last)
    (λ _. after-check state (is_none (value_of name state.document.markers)) (MarkerExists number name) tt last
    (λ _. marked state name None (Some (between start end))))
planned registered number (UpdateMarker name start end) state sound =
    let last : Range → Result (List Operation) EditFault = λ old. Ok (if same_range old (between start end) then []
    else marker name (Some old) (Some (between start end)) ∷ []) in
    after-check state (is_range state.document.items start end) (BadRange number start end) tt (λ _. marker_of number name state >>= last)
    (λ _. after-some state (value_of name state.document.markers) (MarkerUnknown number name) tt last (λ old _. go (same_range old (between start end)) old))
  where
    go : (t : Bool) (old : Range) → AreApplied (all_applied (if t then [] else marker name (Some old) (Some (between start end)) ∷ []) state)
    go true old = tt
    go false old = marked state name (Some old) (Some (between start end))
planned registered number (RemoveMarker name) state sound =
    after-some state (value_of name state.document.markers) (MarkerUnknown number name) tt (λ old. Ok (marker name (Some old) None ∷ []))
    (λ old _. marked state name (Some old) None)
planned registered number (Select start end backward) state sound = after-check state (is_range state.document.items start end)
    (BadRange number start end) tt (λ _. Ok []) (λ _. tt)
planned registered number (SelectionAttribute key value) state sound = tt
planned registered number (InsertItems at items) state sound =
    let last : Unit {0} → Result (List Operation) EditFault = λ _. Ok (insertion at (with_ids state.document.next_id items)) in
    let next : Unit {0} → Result (List Operation) EditFault = λ _. ids_left number (length (ids_of items)) state >>= last in
    after-all state (known_names number (unknown_in registered items)) (told-names number (unknown_in registered items))
    (λ _. check (is_there state.document.items at) (BadPosition number at) >>= next)
    (λ _ _. after-check state (is_there state.document.items at) (BadPosition number at) tt next
    (λ there. after-check state (nat_le (state.document.next_id + length (ids_of items)) (2 ^ 63)) (IdsSpent number) tt last
    (λ _. inserted state at (with_ids state.document.next_id items) there)))

-- so the operations that are planned can be made, or are over a limit
pub planned_apply : (registered : List ℕ → Bool) (number : ℕ) (edit : Edit) (state : State) (operations : List Operation) → IsSound state
    → operations_of registered number edit state ≡ Ok operations
    → AreApplied (all_applied operations state)
planned_apply registered number edit state operations sound e = subst (Applies state) e (planned registered number edit state sound)

-- an edit of a sound document isn't refused for want of memory
pub told : (registered : List ℕ → Bool) (number : ℕ) (edit : Edit) (state : State) → IsSound state → performed registered number edit state ≢ Err NoMemory
told registered number edit state sound = go (operations_of registered number edit state) (planned registered number edit state sound)
  where
    after : (answer : Result State Fault) → AreApplied answer → (as_step number answer >>= (λ made. Ok (selecting edit made))) ≢ Err NoMemory
    after (Ok made) applied = λ e. cc
    after (Err no_place) applied = absurd applied
    after (Err not_flat) applied = absurd applied
    after (Err into_itself) applied = absurd applied
    after (Err (old_differs found)) applied = absurd applied
    after (Err not_neighbours) applied = absurd applied
    after (Err (cell_state cell)) applied = absurd applied
    after (Err (too_large count)) applied = λ e. cc
    after (Err (too_deep depth)) applied = λ e. cc

    own : (fault : EditFault) → IsTold fault → ◌≢◌ {A = Result State EditFault} (Err fault) (Err NoMemory)
    own fault h = λ e. (let same : fault ≡ NoMemory = cc in subst IsTold same h)

    go : (plan : Result (List Operation) EditFault) → Applies state plan
        → (plan >>= (λ operations. as_step number (all_applied operations state) >>= (λ made. Ok (selecting edit made)))) ≢ Err NoMemory
    go (Ok operations) applied = after (all_applied operations state) applied
    go (Err fault) h = own fault h
