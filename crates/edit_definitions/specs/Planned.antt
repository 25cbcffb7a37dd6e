-- The operations that an edit is made of, or why it can't be made: the first fault in the order of `EditFault`. (After the methods of
-- `Writer` of CKEditor 5's model; which operations each makes, and in which order, is this engine's own rule.)
use Rattle.std.specs.Prelude.{ℕ, ◌+◌, ◌-◌, ◌^◌, List, [], ◌∷◌, ◌++◌, map, reverse, length, Bool, true, false, not, ◌&&◌, ◌||◌, nat_le, nat_lt, ◌==◌}
use Rattle.std.specs.Prelude.{if◌then◌else◌, Option, Some, None, is_none, option_and_then, unwrap_or, find, ok_or, Result, Ok, Err}
use Rattle.std.specs.List.{flat_map}
use Rattle.ck_base.specs.declared.value.Value.{Value as AttributeValue}
use Rattle.ck_base.specs.declared.faults.EditFault.{EditFault}
use Rattle.ck_base.specs.declared.faults.EditFault.TheVariants.{NotRegistered, BadPosition, BadRange, BadTarget, MarkerExists, MarkerUnknown, IdsSpent}
use Rattle.ck_base.specs.Entries.{value_of}
use Rattle.item_definitions.specs.Item.{Item, character, element, none, Attributes}
use Rattle.item_definitions.specs.Children.{offset_of, child_count, item_at, walk}
use Rattle.item_definitions.specs.Position.{Range, between, behind, path_before}
use Rattle.item_definitions.specs.FlatParts.{flat_parts}
use Rattle.operation_definitions.specs.Operation.{Operation, in_tree, in_cell, fresh, insert, move, rename, split, merge, marker}
use Rattle.document_definitions.specs.Selection.{same_position, same_range}
use Rattle.document_definitions.specs.Document.{State, ids_of}
use Rattle.edit_definitions.specs.declared.edit.Edit.{Edit}
use Rattle.edit_definitions.specs.declared.edit.Edit.TheVariants.{InsertText, InsertElement, Remove, Move, SetAttribute, RemoveAttribute, Rename, Split, Merge}
use Rattle.edit_definitions.specs.declared.edit.Edit.TheVariants.{Wrap, Unwrap, AddMarker, UpdateMarker, RemoveMarker, Select, SelectionAttribute, InsertItems}
use Rattle.edit_definitions.specs.declared.edit.Target.{Target}
use Rattle.edit_definitions.specs.declared.edit.Target.TheVariants.{Range as InRange, Element as OfElement}
use Rattle.edit_definitions.specs.Places.{is_there, is_range, are_in_one, is_element, is_between, is_known}
use Rattle.edit_definitions.specs.Runs.{give_in, with_ids}

infixl 10 ◌>>=◌
-- a step that may be refused, and what follows with its answer
abbrev pub ◌>>=◌ : {A B : Type 0} → Result A EditFault → (A → Result B EditFault) → Result B EditFault
Ok x >>= next = next x
Err fault >>= next = Err fault

-- a premise, with its fault
abbrev pub check : Bool → EditFault → Result (Unit {0}) EditFault
check true fault = Ok tt
check false fault = Err fault

-- so many new ids are left
abbrev pub ids_left : ℕ → ℕ → State → Result (Unit {0}) EditFault
ids_left edit count state = check (nat_le (state.document.next_id + count) (2 ^ 63)) (IdsSpent edit)

-- how many items a flat range has
abbrev pub count_in : List ℕ → List ℕ → ℕ
count_in start end = offset_of end - offset_of start

-- items come in at a position, if there are any
abbrev pub insertion : List ℕ → List Item → List Operation
insertion at [] = []
insertion at (item ∷ items) = insert at (item ∷ items) ∷ []

-- an element without children
abbrev pub empty_element : ℕ → List ℕ → Attributes → List Item
empty_element id name attributes = element id name attributes none ∷ []

-- the items of flat ranges go into new cells, in this order
abbrev pub removals : ℕ → List Range → List Operation
removals cell [] = []
removals cell (part ∷ parts) = move (in_tree part.start) (count_in part.start part.end) (in_cell cell) ∷ removals (cell + 1) parts

-- the items of a flat range go to a position: nothing where there are none, or where the position is at an end of the range
abbrev pub moved_run : List ℕ → List ℕ → List ℕ → List Operation
moved_run start end to =
    if same_position start end || same_position to start || same_position to end then []
    else move (in_tree start) (count_in start end) (in_tree to) ∷ []

-- the flat ranges whose items an edit changes
abbrev pub parts_of : ℕ → List Item → Target → Result (List Range) EditFault
parts_of edit items (InRange start end) = do
  there ← check (is_range items start end) (BadRange edit start end)
  Ok (flat_parts (child_count items) (between start end))
parts_of edit items (OfElement path) = do
  there ← check (is_element items path) (BadTarget edit path)
  Ok (between path (behind path) ∷ [])

-- the items of a target get this value of a key, or none
abbrev pub given_to : ℕ → List Item → Target → List ℕ → Option AttributeValue → Result (List Operation) EditFault
given_to edit items target key new = do
  parts ← parts_of edit items target
  Ok (flat_map (give_in items key new) parts)

-- the name of an element: None for a character
abbrev pub name_of : Item → Option (List ℕ)
name_of (character scalar attributes) = None
name_of (element id name attributes children) = Some name

-- the element gets another name: nothing where it has that name
abbrev pub renaming : List ℕ → List ℕ → List ℕ → List Operation
renaming path old new = if same_position old new then [] else rename path old new ∷ []

-- it is the name of an element that may not be made
abbrev pub is_unknown : (List ℕ → Bool) → Option (List ℕ) → Bool
is_unknown registered None = false
is_unknown registered (Some name) = not (is_known registered name)

-- the first name, in document order, of an element that may not be made
abbrev pub unknown_in : (List ℕ → Bool) → List Item → Option (List ℕ)
unknown_in registered items =
    option_and_then (λ entry. name_of entry.1) (find (λ entry. is_unknown registered (name_of entry.1)) (walk items))

-- no name is unknown
abbrev pub known_names : ℕ → Option (List ℕ) → Result (Unit {0}) EditFault
known_names edit None = Ok tt
known_names edit (Some name) = Err (NotRegistered edit name)

-- what a marker's edit finds
abbrev pub marker_of : ℕ → List ℕ → State → Result Range EditFault
marker_of edit name state = ok_or (value_of name state.document.markers) (MarkerUnknown edit name)

-- the operations of an edit, which has this number in its change
abbrev pub operations_of : (List ℕ → Bool) → ℕ → Edit → State → Result (List Operation) EditFault
operations_of registered edit (InsertText at text attributes) state = do
  there ← check (is_there state.document.items at) (BadPosition edit at)
  Ok (insertion at (map (λ scalar. character scalar attributes) text))
operations_of registered edit (InsertElement at name attributes) state = do
  known ← check (is_known registered name) (NotRegistered edit name)
  there ← check (is_there state.document.items at) (BadPosition edit at)
  left ← ids_left edit 1 state
  Ok (insertion at (empty_element state.document.next_id name attributes))
operations_of registered edit (Remove start end) state = do
  there ← check (is_range state.document.items start end) (BadRange edit start end)
  Ok (removals (length state.cells) (reverse (flat_parts (child_count state.document.items) (between start end))))
operations_of registered edit (Move start end to) state = do
  there ← check (is_there state.document.items to) (BadPosition edit to)
  flat ← check (is_range state.document.items start end && are_in_one start end) (BadRange edit start end)
  outside ← check (not (is_between start end to)) (BadTarget edit to)
  Ok (moved_run start end to)
operations_of registered edit (SetAttribute target key value) state = given_to edit state.document.items target key (Some value)
operations_of registered edit (RemoveAttribute target key) state = given_to edit state.document.items target key None
operations_of registered edit (Rename path name) state = do
  known ← check (is_known registered name) (NotRegistered edit name)
  old ← ok_or (option_and_then name_of (item_at path state.document.items)) (BadTarget edit path)
  Ok (renaming path old name)
operations_of registered edit (Split at) state = do
  there ← check (is_there state.document.items at) (BadPosition edit at)
  inside ← check (nat_le 2 (length at)) (BadTarget edit at)
  left ← ids_left edit 1 state
  Ok (split at (fresh state.document.next_id) ∷ [])
operations_of registered edit (Merge at) state = do
  there ← check (is_there state.document.items at) (BadPosition edit at)
  two ← check (nat_lt 0 (offset_of at) && is_element state.document.items (path_before at) && is_element state.document.items at) (BadTarget edit at)
  Ok (merge at (path_before at ++ unwrap_or (child_count state.document.items (path_before at)) 0 ∷ []) (length state.cells) ∷ [])
operations_of registered edit (Wrap start end name attributes) state = do
  known ← check (is_known registered name) (NotRegistered edit name)
  flat ← check (is_range state.document.items start end && are_in_one start end) (BadRange edit start end)
  left ← ids_left edit 1 state
  Ok (insertion end (empty_element state.document.next_id name attributes) ++ (if same_position start end then []
      else move (in_tree start) (count_in start end) (in_tree (end ++ 0 ∷ [])) ∷ []))
operations_of registered edit (Unwrap path) state = do
  there ← check (is_element state.document.items path) (BadTarget edit path)
  let count = unwrap_or (child_count state.document.items path) 0
  Ok ((if count == 0 then [] else move (in_tree (path ++ 0 ∷ [])) count (in_tree (behind path)) ∷ [])
      ++ move (in_tree path) 1 (in_cell (length state.cells)) ∷ [])
operations_of registered edit (AddMarker name start end) state = do
  there ← check (is_range state.document.items start end) (BadRange edit start end)
  new ← check (is_none (value_of name state.document.markers)) (MarkerExists edit name)
  Ok (marker name None (Some (between start end)) ∷ [])
operations_of registered edit (UpdateMarker name start end) state = do
  there ← check (is_range state.document.items start end) (BadRange edit start end)
  old ← marker_of edit name state
  Ok (if same_range old (between start end) then [] else marker name (Some old) (Some (between start end)) ∷ [])
operations_of registered edit (RemoveMarker name) state = do
  old ← marker_of edit name state
  Ok (marker name (Some old) None ∷ [])
operations_of registered edit (Select start end backward) state = do
  there ← check (is_range state.document.items start end) (BadRange edit start end)
  Ok []
operations_of registered edit (SelectionAttribute key value) state = Ok []
operations_of registered edit (InsertItems at items) state = do
  known ← known_names edit (unknown_in registered items)
  there ← check (is_there state.document.items at) (BadPosition edit at)
  left ← ids_left edit (length (ids_of items)) state
  Ok (insertion at (with_ids state.document.next_id items))
