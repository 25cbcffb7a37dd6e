-- The parts of a document as its state.
use Rattle.std.specs.Prelude.{ℕ, List}
use Rattle.item_definitions.specs.Item.{Item}
use Rattle.document_definitions.specs.Markers.{Markers}
use Rattle.document_definitions.specs.Selection.{Selection}
use Rattle.document_definitions.specs.Document.{State}

-- the state of these items, cells, markers, selection and next id
abbrev pub state_of : List Item → List (List Item) → Markers → Selection → ℕ → State
state_of items cells markers selection next_id = record {
  document = record { items = items; markers = markers; selection = selection; next_id = next_id };
  cells = cells;
}
