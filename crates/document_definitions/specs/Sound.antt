-- Documents that hold together.
use Rattle.std.specs.Prelude.{◌≡◌, ℕ, ◌<◌, ◌≤◌, ◌^◌, List, ◌++◌, false, Some, All, IsTrue, nat_eq}
use Rattle.std.specs.List.{flat_map, IsDistinct}
use Rattle.ck_base.specs.Entries.{IsOrdered}
use Rattle.item_definitions.specs.Item.{Item}
use Rattle.item_definitions.specs.Children.{child_count}
use Rattle.item_definitions.specs.Position.{Range, IsRange}
use Rattle.item_definitions.specs.Shift.{Shift, IsWithinLimits, carried_ends}
use Rattle.operation_definitions.specs.Reversed.{IsLimited, AreOrdered}
use Rattle.operation_definitions.specs.After.{in_cell_at}
use Rattle.document_definitions.specs.Markers.{Markers}
use Rattle.document_definitions.specs.Selection.{Selection, is_collapsed}
use Rattle.operation_definitions.specs.Operation.{Operation, insert, marker}
use Rattle.document_definitions.specs.Document.{State, ids_of, brought}

-- the ids of all elements in a tree and in the cells beside it
abbrev pub ids_in : List Item → List (List Item) → List ℕ
ids_in items cells = ids_of items ++ flat_map ids_of cells

-- the range of each marker is in the tree
abbrev pub AreIn : List Item → Markers → Type 0
AreIn items markers = All (λ entry. IsRange (child_count items) entry.1) markers

-- the selection's range is in the tree, and one that is collapsed is forward
abbrev pub IsSelection : List Item → Selection → Type 0
IsSelection items selection = IsRange (child_count items) selection.range × (IsTrue (is_collapsed selection.range) → selection.backward ≡ false)

-- The ids are distinct, from 1 on and below the next one. All ranges are in the tree, names and overridden keys are in order, and the
-- tree keeps to its limits.
pub record IsSound (state : State) : Type 0 where
  pub distinct : IsDistinct nat_eq (ids_in state.document.items state.cells)
  pub drawn : All (λ id. (1 ≤ id) × (id < state.document.next_id)) (ids_in state.document.items state.cells)
  pub next : state.document.next_id ≤ 2 ^ 63
  pub some : 1 ≤ state.document.next_id
  pub markers : AreIn state.document.items state.document.markers
  pub named : IsOrdered state.document.markers
  pub selection : IsSelection state.document.items state.document.selection
  pub keyed : IsOrdered state.document.selection.overrides
  pub limited : IsLimited state.document.items

-- the new range of a marker is in the tree
abbrev pub IsMarkerIn : List Item → Operation → Type 0
IsMarkerIn items (marker name old (Some range)) = IsRange (child_count items) range
IsMarkerIn items operation = Unit {0}

-- What an operation may bring: ids that are new in the tree and the cells, distinct, and from 1 to 2^63 - 1; and a marker's range that is
-- in the tree.
pub record IsWelcome (operation : Operation) (state : State) : Type 0 where
  pub fresh : IsDistinct nat_eq (brought operation ++ ids_in state.document.items state.cells)
  pub known : All (λ id. (1 ≤ id) × (id < 2 ^ 63)) (brought operation)
  pub ranged : IsMarkerIn state.document.items operation

-- both ends of a range are carried to positions within the limits
abbrev pub IsCarried : Shift → Range → Type 0
IsCarried shift range = IsWithinLimits (carried_ends shift range).start × IsWithinLimits (carried_ends shift range).end

-- the keys of all items in the tree and in the cells are in order, which makes their attributes finite maps
pub record IsKeyed (state : State) : Type 0 where
  pub items : AreOrdered state.document.items
  pub cells : (number : ℕ) → AreOrdered (in_cell_at state.cells number)

-- the keys of the items that come in are in order
abbrev pub BringsOrdered : Operation → Type 0
BringsOrdered (insert position new) = AreOrdered new
BringsOrdered operation = Unit {0}
