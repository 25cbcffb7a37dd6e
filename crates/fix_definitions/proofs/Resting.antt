-- The plan of each stock fixer is empty exactly where the document is as the fixer wants it.
use Rattle.std.proofs.Common.{◌≡◌, ℕ, List, [], All, ◌↔◌, refl}
use Rattle.item_definitions.specs.Item.{Item}
use Rattle.document_definitions.specs.Markers.{Markers}
use Rattle.document_definitions.specs.Selection.{Selection}
use Rattle.schema_definitions.specs.Allowed.{Rules}
use Rattle.fix_definitions.specs.declared.stock.StockFixer.{StockFixer}
use Rattle.fix_definitions.specs.declared.stock.StockFixer.TheVariants.{DropAttributes, Fill, JoinNeighbours, RemoveEmpty, Require, SelectionPlace}
use Rattle.fix_definitions.specs.Places.{places}
use Rattle.fix_definitions.specs.Wanted.{wanted}
use Rattle.fix_definitions.specs.Selecting.{selection_wanted}
use Rattle.fix_definitions.specs.Fixes.{fixes}
use Rattle.fix_definitions.specs.AtRest.{MayHaveTheirs, AreFilled, AreApart, NoneIsEmpty, HaveChild, IsWellSelected}
use Rattle.fix_definitions.proofs.Plans.{nothing_wanted}
use Rattle.fix_definitions.proofs.Attributes.{allowed}
use Rattle.fix_definitions.proofs.Elements.{filled, not_empty, have_child, apart}
use Rattle.fix_definitions.proofs.Selected.{well_selected}

-- a fixer that doesn't ask the selection
by_places : (rules : Rules) (fixer : StockFixer) (items : List Item) (markers : Markers) (selection : Selection) (Rests : Type 0)
    → selection_wanted rules fixer items selection ≡ [] → All (λ place. wanted rules fixer place ≡ []) (places items) ↔ Rests
    → (fixes rules fixer items markers selection ≡ []) ↔ Rests
by_places rules fixer items markers selection Rests none h =
    let plan = nothing_wanted rules fixer items markers selection in
    ((λ e. h.0 (plan.0 e).0), λ r. plan.1 (h.1 r, none))

module _ (rules : Rules) (items : List Item) (markers : Markers) (selection : Selection) where
  pub drop_attributes : (fixes rules DropAttributes items markers selection ≡ []) ↔ MayHaveTheirs rules items
  drop_attributes = by_places rules DropAttributes items markers selection (MayHaveTheirs rules items) refl (allowed rules items)

  pub fill : (parent child : List ℕ) → (fixes rules (Fill parent child) items markers selection ≡ []) ↔ AreFilled parent items
  fill parent child = by_places rules (Fill parent child) items markers selection (AreFilled parent items) refl (filled rules parent child items)

  pub join_neighbours : (name : List ℕ) → (fixes rules (JoinNeighbours name) items markers selection ≡ []) ↔ AreApart name items
  join_neighbours name = by_places rules (JoinNeighbours name) items markers selection (AreApart name items) refl (apart rules name items)

  pub remove_empty : (name : List ℕ) → (fixes rules (RemoveEmpty name) items markers selection ≡ []) ↔ NoneIsEmpty name items
  remove_empty name = by_places rules (RemoveEmpty name) items markers selection (NoneIsEmpty name items) refl (not_empty rules name items)

  pub require : (parent child : List ℕ) → (fixes rules (Require parent child) items markers selection ≡ []) ↔ HaveChild parent child items
  require parent child = by_places rules (Require parent child) items markers selection (HaveChild parent child items) refl
      (have_child rules parent child items)

  pub selection_place : (fixes rules SelectionPlace items markers selection ≡ []) ↔ IsWellSelected rules items selection.range
  selection_place =
      let plan = nothing_wanted rules SelectionPlace items markers selection in
      let well = well_selected rules items selection.range in
      ((λ e. well.0 (plan.0 e).1), λ h. plan.1 ((λ k d lt. refl), well.1 h))
