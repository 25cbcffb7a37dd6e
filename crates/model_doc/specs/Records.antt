-- The records of operations, and what each leads from and to.
use Rattle.std.specs.Prelude.{◌≡◌, ℕ, ◌+◌, ◌≤◌, List, [], ◌∷◌, length, Result, Ok, Err}
use Rattle.item_definitions.specs.Item.{Item}
use Rattle.operation_definitions.specs.Operation.{Operation, Fault}
use Rattle.operation_definitions.specs.After.{in_cell_at}
use Rattle.operation_definitions.specs.Reversed.{AreOrdered, HasPlaces}
use Rattle.document_definitions.specs.Markers.{Markers}
use Rattle.document_definitions.specs.Selection.{Selection}
use Rattle.document_definitions.specs.Document.{State, applied}
use Rattle.document_definitions.specs.Sound.{IsSound}
use Rattle.model_doc.specs.Held.{Held}

-- What is seen of a record: the operation; the cell for what its reversal may have to put away; its number, which counts the operations
-- that were not taken back with this one; and the markers, the selection and the next id from before it.
pub record Done : Type 0 where
  pub operation : Operation
  pub cell : ℕ
  pub number : ℕ
  pub markers : Markers
  pub selection : Selection
  pub next_id : ℕ

-- the record of an operation on a state, which made another one: the cell is the next new one then
abbrev pub done_on : State → Operation → State → ℕ → Done
done_on before operation made number = record {
  operation = operation;
  cell = length made.cells;
  number = number;
  markers = before.document.markers;
  selection = before.document.selection;
  next_id = before.document.next_id;
}

-- the record of an operation with this answer, and then those of others
abbrev pub recorded : State → Operation → ℕ → (State → List Done) → Result State Fault → List Done
recorded before operation mark rest (Ok made) = done_on before operation made (mark + 1) ∷ rest made
recorded before operation mark rest (Err fault) = []

-- the records of operations, one after the other, on a document with this mark
abbrev pub records_of : List Operation → State → ℕ → List Done
records_of [] state mark = []
records_of (operation ∷ operations) state mark =
    recorded state operation mark (λ made. records_of operations made (mark + 1)) (applied operation state)

-- The cells hold the same items, where a cell that isn't there counts as an empty one, and there are no fewer of them.
abbrev pub AreSame : List (List Item) → List (List Item) → Type 0
AreSame cells now = ((number : ℕ) → in_cell_at now number ≡ in_cell_at cells number) × (length cells ≤ length now)

-- a state is another one but for the selection and for cells that are empty
abbrev pub IsReached : State → State → Type 0
IsReached made now =
    (now.document.items ≡ made.document.items) × (now.document.markers ≡ made.document.markers)
    × (now.document.next_id ≡ made.document.next_id) × AreSame made.cells now.cells

-- an operation with this answer led to a state, and has this record
abbrev pub LedTo : State → Done → State → Result State Fault → Type 0
LedTo before done now (Ok made) = (done ≡ done_on before done.operation made done.number) × IsReached made now
LedTo before done now (Err fault) = ⊥

-- The record is the last one that was not taken back, and was made on a state. The selection may have changed since.
pub record Leads (before : State) (done : Done) (held : Held) : Type 0 where
  pub sound : IsSound before
  pub ordered : AreOrdered before.document.items
  pub places : HasPlaces done.operation
  pub some : 1 ≤ done.number
  pub last : done.number ≡ held.mark
  pub led : LedTo before done held.state (applied done.operation before)

-- a state is another one again, but for cells that are empty
abbrev pub IsAgain : State → State → Type 0
IsAgain before now = (now.document ≡ before.document) × AreSame before.cells now.cells
