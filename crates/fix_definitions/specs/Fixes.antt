-- What a fixer is, and the plans of the stock fixers.
use Rattle.std.specs.Prelude.{List, ◌++◌, reverse}
use Rattle.std.specs.List.{flat_map}
use Rattle.item_definitions.specs.Item.{Item}
use Rattle.document_definitions.specs.Markers.{Markers}
use Rattle.document_definitions.specs.Selection.{Selection}
use Rattle.schema_definitions.specs.Allowed.{Rules}
use Rattle.edit_definitions.specs.declared.edit.Edit.{Edit}
use Rattle.fix_definitions.specs.declared.stock.StockFixer.{StockFixer}
use Rattle.fix_definitions.specs.declared.stock.StockFixer.TheVariants.{DropAttributes, Fill, JoinNeighbours, RemoveEmpty, Require, SelectionPlace}
use Rattle.fix_definitions.specs.Places.{places}
use Rattle.fix_definitions.specs.Wanted.{wanted}
use Rattle.fix_definitions.specs.Selecting.{selection_wanted}

-- what a fixer plans, by the items, the markers and the selection of a document alone
abbrev pub Fixing : Type 0
Fixing = List Item → Markers → Selection → List Edit

-- the edits of a plan that were gathered in document order, in the order of the fixer: what joins or removes elements begins with the last
abbrev pub arranged : StockFixer → List Edit → List Edit
arranged DropAttributes edits = edits
arranged (Fill parent child) edits = edits
arranged (JoinNeighbours name) edits = reverse edits
arranged (RemoveEmpty name) edits = reverse edits
arranged (Require parent child) edits = edits
arranged SelectionPlace edits = edits

-- the plan of a stock fixer: what it wants at each place, and of the selection
abbrev pub fixes : Rules → StockFixer → Fixing
fixes rules fixer items markers selection =
    arranged fixer (flat_map (wanted rules fixer) (places items)) ++ selection_wanted rules fixer items selection

-- a fixer: one of the settings, or one of a product, by what it plans
pub data Fixer : Type 0 where
  stock : StockFixer → Fixer
  boxed : Fixing → Fixer

-- what a fixer plans
abbrev pub fixing_of : Rules → Fixer → Fixing
fixing_of rules (stock fixer) = fixes rules fixer
fixing_of rules (boxed fixing) = fixing
