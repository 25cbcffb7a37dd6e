-- Each edit finds its places where its premises hold.
use Rattle.std.proofs.Common.{◌≡◌, ℕ, ◌+◌, ◌^◌, Bool, true, false, ◌&&◌, nat_le, nat_lt, ◌==◌, if◌then◌else◌, List, [], ◌∷◌, ◌++◌, map, reverse, length}
use Rattle.std.proofs.Common.{Option, Some, None, is_some, unwrap_or, ok_or, option_and_then, Result, Ok, Err, refl, sym, subst}
use Rattle.std.specs.List.{flat_map}
use Rattle.ck_base.specs.declared.value.Value.{Value as AttributeValue}
use Rattle.ck_base.specs.declared.faults.EditFault.{EditFault}
use Rattle.ck_base.specs.declared.faults.EditFault.TheVariants.{NotRegistered, BadPosition, BadRange, BadTarget, IdsSpent}
use Rattle.item_definitions.specs.Item.{Attributes, character}
use Rattle.item_definitions.specs.Children.{offset_of, child_count, item_at}
use Rattle.item_definitions.specs.Position.{between, behind, path_before}
use Rattle.item_definitions.specs.FlatParts.{flat_parts}
use Rattle.operation_definitions.specs.Operation.{Fault, no_place, not_flat, into_itself, old_differs, not_neighbours, cell_state, too_large, too_deep}
use Rattle.operation_definitions.specs.Operation.{Operation, in_tree, in_cell, fresh, move, split, merge}
use Rattle.document_definitions.specs.Selection.{same_position}
use Rattle.document_definitions.specs.Document.{State, all_applied}
use Rattle.edit_definitions.specs.declared.edit.Edit.{Edit}
use Rattle.edit_definitions.specs.declared.edit.Edit.TheVariants.{InsertText, InsertElement, Remove, SetAttribute, RemoveAttribute, Rename, Split, Merge}
use Rattle.edit_definitions.specs.declared.edit.Edit.TheVariants.{Wrap, Unwrap, Select}
use Rattle.edit_definitions.specs.declared.edit.Target.{Target}
use Rattle.edit_definitions.specs.declared.edit.Target.TheVariants.{Range as InRange, Element as OfElement}
use Rattle.edit_definitions.specs.Places.{is_there, is_range, are_in_one, is_element, is_known}
use Rattle.edit_definitions.specs.Runs.{give_in}
use Rattle.edit_definitions.specs.Planned.{◌>>=◌, check, ids_left, count_in, insertion, empty_element, removals, given_to, name_of, renaming, operations_of}
use Rattle.edit_definitions.specs.Performed.{as_step, selecting, performed, all_performed, document_made}
use Rattle.command_definitions.specs.Finding.{FindsPlaces}

pub finds-then : {A B : Type 0} (r : Result A EditFault) (next : A → Result B EditFault) → FindsPlaces r → ((a : A) → r ≡ Ok a → FindsPlaces (next a))
    → FindsPlaces (r >>= next)
finds-then (Ok a) next h k = k a refl
finds-then (Err fault) next h k = h

-- a premise that holds
held : {A : Type 0} (b : Bool) (fault : EditFault) (next : Unit {0} → Result A EditFault) → b ≡ true → FindsPlaces (next tt)
    → FindsPlaces (check b fault >>= next)
held b fault next e h = subst (λ t. FindsPlaces (check t fault >>= next)) (sym e) h

-- a premise that isn't about a place
named : {A : Type 0} (b : Bool) (edit : ℕ) (name : List ℕ) (next : Unit {0} → Result A EditFault) → FindsPlaces (next tt)
    → FindsPlaces (check b (NotRegistered edit name) >>= next)
named true edit name next h = h
named false edit name next h = tt

left : {A : Type 0} (b : Bool) (edit : ℕ) (next : Unit {0} → Result A EditFault) → FindsPlaces (next tt) → FindsPlaces (check b (IdsSpent edit) >>= next)
left true edit next h = h
left false edit next h = tt

-- what is planned is made, or is over a limit
made : (number : ℕ) (r : Result State Fault) → FindsPlaces (as_step number r)
made number (Ok state) = tt
made number (Err no_place) = tt
made number (Err not_flat) = tt
made number (Err into_itself) = tt
made number (Err (old_differs found)) = tt
made number (Err not_neighbours) = tt
made number (Err (cell_state cell)) = tt
made number (Err (too_large count)) = tt
made number (Err (too_deep depth)) = tt

pub planned-finds : (registered : List ℕ → Bool) (number : ℕ) (edit : Edit) (state : State) → FindsPlaces (operations_of registered number edit state)
    → FindsPlaces (performed registered number edit state)
planned-finds registered number edit state h =
    finds-then (operations_of registered number edit state) (λ operations. as_step number (all_applied operations state)
    >>= (λ made. Ok (selecting edit made))) h
    (λ operations e. finds-then (as_step number (all_applied operations state)) (λ made. Ok (selecting edit made))
    (made number (all_applied operations state)) (λ state e. tt))

-- one edit, and then others
pub edits-find : (registered : List ℕ → Bool) (number : ℕ) (edit : Edit) (edits : List Edit) (state : State)
    → FindsPlaces (performed registered number edit state)
    → ((next : State) → performed registered number edit state ≡ Ok next → FindsPlaces (all_performed registered (number + 1) edits next))
    → FindsPlaces (all_performed registered number (edit ∷ edits) state)
edits-find registered number edit edits state h k = finds-then (performed registered number edit state) (all_performed registered (number + 1) edits) h k

-- the last edit
pub last-finds : (registered : List ℕ → Bool) (number : ℕ) (edit : Edit) (state : State) → FindsPlaces (performed registered number edit state)
    → FindsPlaces (all_performed registered number (edit ∷ []) state)
last-finds registered number edit state h = edits-find registered number edit [] state h (λ next e. tt)

pub document-finds : (r : Result State EditFault) → FindsPlaces r → FindsPlaces (document_made r)
document-finds (Ok state) h = tt
document-finds (Err fault) h = h

module _ (registered : List ℕ → Bool) (number : ℕ) (state : State) where
  pub text-finds : (at text : List ℕ) (attributes : Attributes) → is_there state.document.items at ≡ true
      → FindsPlaces (performed registered number (InsertText at text attributes) state)
  text-finds at text attributes there =
      planned-finds registered number (InsertText at text attributes) state
      (held (is_there state.document.items at) (BadPosition number at) (λ _. Ok (insertion at (map (λ scalar. character scalar attributes) text))) there tt)

  pub element-finds : (at name : List ℕ) (attributes : Attributes) → is_there state.document.items at ≡ true
      → FindsPlaces (performed registered number (InsertElement at name attributes) state)
  element-finds at name attributes there =
      let last : Unit {0} → Result (List Operation) EditFault = λ _. Ok (insertion at (empty_element state.document.next_id name attributes)) in
      let next : Unit {0} → Result (List Operation) EditFault = λ _. ids_left number 1 state >>= last in
      planned-finds registered number (InsertElement at name attributes) state
      (named (is_known registered name) number name (λ _. check (is_there state.document.items at) (BadPosition number at) >>= next)
      (held (is_there state.document.items at) (BadPosition number at) next there (left (nat_le (state.document.next_id + 1) (2 ^ 63)) number last tt)))

  pub remove-finds : (start end : List ℕ) → is_range state.document.items start end ≡ true → FindsPlaces (performed registered number (Remove start end) state)
  remove-finds start end there =
      planned-finds registered number (Remove start end) state
      (held (is_range state.document.items start end) (BadRange number start end)
      (λ _. Ok (removals (length state.cells) (reverse (flat_parts (child_count state.document.items) (between start end))))) there tt)

  pub split-finds : (at : List ℕ) → is_there state.document.items at ≡ true → nat_le 2 (length at) ≡ true
      → FindsPlaces (performed registered number (Split at) state)
  split-finds at there inside =
      let last : Unit {0} → Result (List Operation) EditFault = λ _. Ok (split at (fresh state.document.next_id) ∷ []) in
      let next : Unit {0} → Result (List Operation) EditFault = λ _. ids_left number 1 state >>= last in
      planned-finds registered number (Split at) state
      (held (is_there state.document.items at) (BadPosition number at) (λ _. check (nat_le 2 (length at)) (BadTarget number at) >>= next) there
      (held (nat_le 2 (length at)) (BadTarget number at) next inside (left (nat_le (state.document.next_id + 1) (2 ^ 63)) number last tt)))

  pub merge-finds : (at : List ℕ) → is_there state.document.items at ≡ true
      → (nat_lt 0 (offset_of at) && is_element state.document.items (path_before at) && is_element state.document.items at) ≡ true
      → FindsPlaces (performed registered number (Merge at) state)
  merge-finds at there two =
      let test = nat_lt 0 (offset_of at) && is_element state.document.items (path_before at) && is_element state.document.items at in
      let last : Unit {0} → Result (List Operation) EditFault =
      λ _. Ok (merge at (path_before at ++ unwrap_or (child_count state.document.items (path_before at)) 0 ∷ []) (length state.cells) ∷ []) in
      planned-finds registered number (Merge at) state
      (held (is_there state.document.items at) (BadPosition number at) (λ _. check test (BadTarget number at) >>= last) there
      (held test (BadTarget number at) last two tt))

  pub select-finds : (start end : List ℕ) (backward : Bool) → is_range state.document.items start end ≡ true
      → FindsPlaces (performed registered number (Select start end backward) state)
  select-finds start end backward there =
      planned-finds registered number (Select start end backward) state
      (held (is_range state.document.items start end) (BadRange number start end) (λ _. Ok []) there tt)

  pub wrap-finds : (start end name : List ℕ) (attributes : Attributes) → (is_range state.document.items start end && are_in_one start end) ≡ true
      → FindsPlaces (performed registered number (Wrap start end name attributes) state)
  wrap-finds start end name attributes flat =
      let test = is_range state.document.items start end && are_in_one start end in
      let last : Unit {0} → Result (List Operation) EditFault =
      λ _. Ok (insertion end (empty_element state.document.next_id name attributes) ++
      (if same_position start end then [] else move (in_tree start) (count_in start end) (in_tree (end ++ 0 ∷ [])) ∷ [])) in
      let next : Unit {0} → Result (List Operation) EditFault = λ _. ids_left number 1 state >>= last in
      planned-finds registered number (Wrap start end name attributes) state
      (named (is_known registered name) number name (λ _. check test (BadRange number start end) >>= next)
      (held test (BadRange number start end) next flat (left (nat_le (state.document.next_id + 1) (2 ^ 63)) number last tt)))

  pub unwrap-finds : (path : List ℕ) → is_element state.document.items path ≡ true → FindsPlaces (performed registered number (Unwrap path) state)
  unwrap-finds path there =
      planned-finds registered number (Unwrap path) state
      (subst (λ t. FindsPlaces (check t (BadTarget number path) >>= (λ _. Ok ((if unwrap_or (child_count state.document.items path) 0 == 0 then []
      else move (in_tree (path ++ 0 ∷ [])) (unwrap_or (child_count state.document.items path) 0) (in_tree (behind path)) ∷ []) ++ move (in_tree path) 1
      (in_cell (length state.cells)) ∷ [])))) (sym there) tt)

  pub rename-finds : (path name : List ℕ) → is_some (option_and_then name_of (item_at path state.document.items)) ≡ true
      → FindsPlaces (performed registered number (Rename path name) state)
  rename-finds path name there =
      let last : List ℕ → Result (List Operation) EditFault = λ old. Ok (renaming path old name) in
      planned-finds registered number (Rename path name) state
      (named (is_known registered name) number name (λ _. ok_or (option_and_then name_of (item_at path state.document.items)) (BadTarget number path) >>= last)
      (go (option_and_then name_of (item_at path state.document.items)) there last))
    where
      go : (o : Option (List ℕ)) → is_some o ≡ true → (last : List ℕ → Result (List Operation) EditFault)
          → FindsPlaces (ok_or o (BadTarget number path) >>= (λ old. Ok (renaming path old name)))
      go None e last = absurd cc
      go (Some old) e last = tt

  -- the target of a change of an attribute
  abbrev pub HasTarget : Target → Type 0
  HasTarget (InRange start end) = is_range state.document.items start end ≡ true
  HasTarget (OfElement path) = is_element state.document.items path ≡ true

  given-finds : (target : Target) (key : List ℕ) (new : Option AttributeValue) → HasTarget target
      → FindsPlaces (given_to number state.document.items target key new)
  given-finds (InRange start end) key new there =
      subst (λ t. FindsPlaces ((check t (BadRange number start end) >>= (λ _. Ok (flat_parts (child_count state.document.items) (between start end))))
      >>= (λ parts. Ok (flat_map (give_in state.document.items key new) parts)))) (sym there) tt
  given-finds (OfElement path) key new there =
      subst (λ t. FindsPlaces ((check t (BadTarget number path) >>= (λ _. Ok (between path (behind path) ∷ [])))
      >>= (λ parts. Ok (flat_map (give_in state.document.items key new) parts)))) (sym there) tt

  pub set-finds : (target : Target) (key : List ℕ) (value : AttributeValue) → HasTarget target
      → FindsPlaces (performed registered number (SetAttribute target key value) state)
  set-finds target key value there = planned-finds registered number (SetAttribute target key value) state (given-finds target key (Some value) there)

  pub unset-finds : (target : Target) (key : List ℕ) → HasTarget target → FindsPlaces (performed registered number (RemoveAttribute target key) state)
  unset-finds target key there = planned-finds registered number (RemoveAttribute target key) state (given-finds target key None there)
