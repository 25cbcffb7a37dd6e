-- What is known of a change that an operation plans.
use Rattle.std.specs.Prelude.{◌≡◌, ◌≢◌, ℕ, ◌-◌, ◌<◌, ◌≤◌, ◌^◌, min, List, length, Option, Some, None, ok_or, Result, Ok, Err}
use Rattle.item_definitions.specs.Item.{Item}
use Rattle.item_definitions.specs.Children.{parent_of, offset_of, child_count}
use Rattle.item_definitions.specs.Position.{path_before}
use Rattle.operation_definitions.specs.Operation as meant
use Rattle.operation_definitions.specs.Operation.{found_value, found_name, no_place, not_flat, into_itself, old_differs, not_neighbours, cell_state, too_large}
use Rattle.operation_definitions.specs.Operation.{too_deep}
use Rattle.operation_definitions.specs.After.{◌>>=◌, fill, have_value}
use Rattle.ck_base.specs.declared.value.Value.{Value as AttributeValue}
use Rattle.model_tree.specs.declared.fault.TreeFault.{TreeFault}
use Rattle.model_tree.specs.declared.fault.TreeFault.TheVariants as tree_fault
use Rattle.model_ops.specs.declared.fault.Found.{Found}
use Rattle.model_ops.specs.declared.fault.Found.TheVariants as found
use Rattle.model_ops.specs.declared.fault.OpFault.{OpFault}
use Rattle.model_ops.specs.declared.fault.OpFault.TheVariants.{NoPlace, NotFlat, IntoItself, OldDiffers, NotNeighbours, CellState, TooLarge, TooDeep, NoMemory}
use Rattle.model_ops.specs.declared.plans.Filled.{Filled}
use Rattle.model_ops.specs.declared.plans.Change.{Change}

-- what was found, in the code's words
abbrev pub found_as : meant.Found → Found
found_as (found_value value) = found.Value value
found_as (found_name name) = found.Name name

-- why an operation is refused, in the code's words: a number that is larger than its type holds is the greatest one of the type
abbrev pub fault_as : meant.Fault → OpFault
fault_as no_place = NoPlace
fault_as not_flat = NotFlat
fault_as into_itself = IntoItself
fault_as (old_differs found) = OldDiffers (found_as found)
fault_as not_neighbours = NotNeighbours
fault_as (cell_state number) = CellState number
fault_as (too_large count) = TooLarge (min count (2 ^ 64 - 1))
fault_as (too_deep depth) = TooDeep (min depth (2 ^ 32 - 1))

-- the same of a fault of the tree
abbrev pub fault_of : TreeFault → OpFault
fault_of tree_fault.NoPlace = NoPlace
fault_of tree_fault.NoMemory = NoMemory

-- the items of the tree, and those of the cells
abbrev pub State : Type 0
State = List Item × List (List Item)

-- the refusal of a result, if it is one
abbrev pub refusal : {A : Type 0} → Result A meant.Fault → Option OpFault
refusal (Ok made) = None
refusal (Err fault) = Some (fault_as fault)

-- the cells with the one that a change fills
abbrev pub filled : Option Filled → List (List Item) → List (List Item)
filled None cells = cells
filled (Some cell) cells = fill cells cell.number cell.items

-- the cell that a change fills is there, or it is the next new one
abbrev pub CanFill : Option Filled → List (List Item) → Type 0
CanFill None cells = Unit {0}
CanFill (Some cell) cells = cell.number ≤ length cells

-- A planned change makes the state that is wanted of these cells. A refusal is the one that is wanted, but for want of memory.
abbrev pub Plans : Result State meant.Fault → List (List Item) → Result Change OpFault → Type 0
Plans wanted cells (Ok change) = (wanted ≡ Ok (change.items, filled change.cell cells)) × CanFill change.cell cells
Plans wanted cells (Err fault) = fault ≢ NoMemory → refusal wanted ≡ Some fault

-- the state with these items, and no place where there are none
abbrev pub placed : Option (List Item) → List (List Item) → Result State meant.Fault
placed None cells = Err no_place
placed (Some items) cells = Ok (items, cells)

-- the state with the items that another value was given to, where each had the old one
abbrev pub given_if : Option AttributeValue → List ℕ → Option (List Item × List Item) → List (List Item) → Result State meant.Fault
given_if old key given cells = do
  made ← ok_or given no_place
  same ← have_value key old made.1
  Ok (made.0, cells)

-- a position is behind the items of the element before the one at a path
pub record IsLeftEnd (right target : List ℕ) (items : List Item) : Type 0 where
  pub second : 0 < offset_of right
  pub before : parent_of target ≡ path_before right
  pub end : child_count items (parent_of target) ≡ Some (offset_of target)
