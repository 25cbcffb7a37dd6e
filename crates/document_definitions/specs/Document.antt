-- A document, and one operation on it. (After `Model` and `Operation` of CKEditor 5's model.)
use Rattle.std.specs.Prelude.{ℕ, ◌+◌, max, List, [], ◌∷◌, ◌++◌, length, false, Result, Ok, fold}
use Rattle.item_definitions.specs.Item.{Item, Items, character, element, none, more}
use Rattle.item_definitions.specs.Position.{between}
use Rattle.item_definitions.specs.Shift as shifts
use Rattle.item_definitions.specs.Shift.{Shift, stay, remove}
use Rattle.operation_definitions.specs.Operation.{Operation, Fault, Place, in_tree, in_cell, fresh, from_cell, insert, move, attribute, rename, split, merge}
use Rattle.operation_definitions.specs.Operation.{marker}
use Rattle.operation_definitions.specs.After.{after, ◌>>=◌}
use Rattle.document_definitions.specs.Markers as markers
use Rattle.document_definitions.specs.Markers.{Markers, with_marker}
use Rattle.document_definitions.specs.Selection as selections
use Rattle.document_definitions.specs.Selection.{Selection}

-- the root's items, the markers, the selection, and the id that the next new element gets
pub record Document : Type 0 where
  pub items : List Item
  pub markers : Markers
  pub selection : Selection
  pub next_id : ℕ

-- a document, and beside it the cells, which hold what was taken out
pub record State : Type 0 where
  pub document : Document
  pub cells : List (List Item)

-- how positions and ranges are carried when items go from one place to another: into a cell they are removed, from a cell they come in
abbrev pub shift_of_move : Place → ℕ → Place → Shift
shift_of_move (in_tree from) count (in_tree to) = shifts.move from count to
shift_of_move (in_tree from) count (in_cell number) = remove from count
shift_of_move (in_cell number) count (in_tree to) = shifts.insert to count
shift_of_move (in_cell number) count (in_cell other) = stay

-- how positions and ranges are carried by an operation
abbrev pub shift_of : Operation → Shift
shift_of (insert position new) = shifts.insert position (length new)
shift_of (move from count to) = shift_of_move from count to
shift_of (attribute range key old new) = stay
shift_of (rename path old new) = stay
shift_of (split position source) = shifts.split position
shift_of (merge right target cell) = shifts.merge right target
shift_of (marker name old new) = stay

abbrev mutual
  -- the ids of an element and of all elements in it, in document order
  pub ids_of_item : Item → List ℕ
  ids_of_item (character scalar attributes) = []
  ids_of_item (element id name attributes children) = id ∷ ids_of_inner children

  -- the ids of all elements in an element
  pub ids_of_inner : Items → List ℕ
  ids_of_inner none = []
  ids_of_inner (more item items) = ids_of_item item ++ ids_of_inner items

-- the ids of all elements of a list, in document order
abbrev pub ids_of : List Item → List ℕ
ids_of [] = []
ids_of (item ∷ items) = ids_of_item item ++ ids_of items

-- the ids that an operation brings
abbrev pub brought : Operation → List ℕ
brought (insert position new) = ids_of new
brought (move from count to) = []
brought (attribute range key old new) = []
brought (rename path old new) = []
brought (split position (fresh id)) = id ∷ []
brought (split position (from_cell cell)) = []
brought (merge right target cell) = []
brought (marker name old new) = []

-- the next id, just above all these ids too
abbrev pub raised : ℕ → List ℕ → ℕ
raised next ids = fold (λ above id. max above (id + 1)) next ids

-- the markers after an operation: the one that it names has its new range, and all others are carried
abbrev pub markers_after : Operation → Markers → Markers
markers_after (marker name old new) all = with_marker name new all
markers_after operation all = markers.carried (shift_of operation) all

-- the state with these items and cells, after an operation
abbrev pub changed : Operation → State → List Item × List (List Item) → State
changed operation state made = record {
  document = record {
    items = made.0;
    markers = markers_after operation state.document.markers;
    selection = selections.carried (shift_of operation) state.document.selection;
    next_id = raised state.document.next_id (brought operation);
  };
  cells = made.1;
}

-- the same state with this selection
abbrev pub with_selection : Selection → State → State
with_selection selection state = record {
  document = record {
    items = state.document.items;
    markers = state.document.markers;
    selection = selection;
    next_id = state.document.next_id;
  };
  cells = state.cells;
}

-- a document without items, whose first new element gets this id, and beside it no cells
abbrev pub empty_state : ℕ → State
empty_state first_id = record {
  document = record {
    items = [];
    markers = [];
    selection = selections.selected (between (0 ∷ []) (0 ∷ [])) false;
    next_id = first_id;
  };
  cells = [];
}

-- the state after an operation, or why that is refused
abbrev pub applied : Operation → State → Result State Fault
applied operation state = do
  made ← after state.document.items state.cells operation
  Ok (changed operation state made)

-- the state after operations, one after the other, or why the first that is refused is
abbrev pub all_applied : List Operation → State → Result State Fault
all_applied [] state = Ok state
all_applied (operation ∷ operations) state = applied operation state >>= all_applied operations
