-- What a document is after an edit, and after a list of edits.
use Rattle.std.specs.Prelude.{ℕ, ◌+◌, ◌-◌, ◌^◌, min, List, [], ◌∷◌, Bool, Result, Ok, Err}
use Rattle.ck_base.specs.declared.faults.EditFault.{EditFault}
use Rattle.ck_base.specs.declared.faults.EditFault.TheVariants.{TooLarge, TooDeep, NoMemory}
use Rattle.item_definitions.specs.Position.{between}
use Rattle.operation_definitions.specs.Operation.{Fault, no_place, not_flat, into_itself, old_differs, not_neighbours, cell_state, too_large, too_deep}
use Rattle.document_definitions.specs.Selection.{selected, with_override}
use Rattle.document_definitions.specs.Document.{Document, State, with_selection, all_applied}
use Rattle.edit_definitions.specs.declared.edit.Edit.{Edit}
use Rattle.edit_definitions.specs.declared.edit.Edit.TheVariants.{Select, SelectionAttribute}
use Rattle.edit_definitions.specs.Planned.{◌>>=◌, operations_of}

-- The fault of an edit one of whose operations is refused: its premises hold, so that the limits on the tree alone can refuse one, and on a
-- sound document `NoMemory` isn't met (`planned_operations_apply`). A count or a depth that is larger than the type of its field is the
-- greatest number of that type.
abbrev pub limit_fault : ℕ → Fault → EditFault
limit_fault edit (too_large count) = TooLarge edit (min count (2 ^ 64 - 1))
limit_fault edit (too_deep depth) = TooDeep edit (min depth (2 ^ 32 - 1))
limit_fault edit no_place = NoMemory
limit_fault edit not_flat = NoMemory
limit_fault edit into_itself = NoMemory
limit_fault edit (old_differs found) = NoMemory
limit_fault edit not_neighbours = NoMemory
limit_fault edit (cell_state number) = NoMemory

-- the answer of operations as one of their edit
abbrev pub as_step : ℕ → Result State Fault → Result State EditFault
as_step edit (Ok state) = Ok state
as_step edit (Err fault) = Err (limit_fault edit fault)

-- what an edit makes of the selection
abbrev pub selecting : Edit → State → State
selecting (Select start end backward) state = with_selection (selected (between start end) backward) state
selecting (SelectionAttribute key value) state = with_selection (with_override key value state.document.selection) state
selecting edit state = state

-- the state after an edit, which has this number in its change, or why it can't be made
abbrev pub performed : (List ℕ → Bool) → ℕ → Edit → State → Result State EditFault
performed registered number edit state = do
  operations ← operations_of registered number edit state
  made ← as_step number (all_applied operations state)
  Ok (selecting edit made)

-- the state after edits, one after the other, of which the first has this number
abbrev pub all_performed : (List ℕ → Bool) → ℕ → List Edit → State → Result State EditFault
all_performed registered number [] state = Ok state
all_performed registered number (edit ∷ edits) state = performed registered number edit state >>= all_performed registered (number + 1) edits

-- a document with no cells beside it
abbrev pub apart : Document → State
apart document = record { document = document; cells = [] }

-- the document of a state that was made, without the cells beside it
abbrev pub document_made : Result State EditFault → Result Document EditFault
document_made (Ok state) = Ok state.document
document_made (Err fault) = Err fault

-- the document after the edits of a change, one after the other, or why the first that can't be made can't
abbrev pub edits_made : (List ℕ → Bool) → List Edit → Document → Result Document EditFault
edits_made registered edits document = document_made (all_performed registered 1 edits (apart document))
