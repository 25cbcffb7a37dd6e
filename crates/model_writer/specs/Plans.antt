-- What the answers of the planning functions mean.
use Rattle.std.specs.Prelude.{◌≡◌, ◌≢◌, ℕ, List, map, Result, Ok, Err, Vec}
use Rattle.std.specs.declared.alloc.Global.{Global}
use Rattle.ck_base.specs.declared.faults.EditFault.{EditFault}
use Rattle.ck_base.specs.declared.faults.EditFault.TheVariants.{TooLarge, TooDeep, NoMemory}
use Rattle.item_definitions.specs.Position.{Range as Ends}
use Rattle.operation_definitions.specs.Operation as meant
use Rattle.model_ops.specs.declared.operation.Operation.{Operation}
use Rattle.model_ops.specs.declared.fault.OpFault.{OpFault}
use Rattle.model_ops.specs.declared.fault.OpFault.TheVariants as op
use Rattle.model_ops.specs.Meant.{operation_of}
use Rattle.edit_definitions.specs.declared.edit.Edit.{Edit}
use Rattle.edit_definitions.specs.declared.edit.Edit.TheVariants.{Select, SelectionAttribute}

-- what operations mean
abbrev pub operations_in : Vec Operation Global → List meant.Operation
operations_in operations = map operation_of operations.items

-- A plan has the operations that are wanted. A fault is the one that is wanted, but for want of memory, of which nothing is said.
abbrev pub Plans : Result (List meant.Operation) EditFault → Result (Vec Operation Global) EditFault → Type 0
Plans wanted (Ok operations) = wanted ≡ Ok (operations_in operations)
Plans wanted (Err fault) = fault ≢ NoMemory → wanted ≡ Err fault

-- The same of flat ranges that are found.
abbrev pub Parted : Result (List Ends) EditFault → Result (Vec Ends Global) EditFault → Type 0
Parted wanted (Ok parts) = wanted ≡ Ok parts.items
Parted wanted (Err fault) = fault ≢ NoMemory → wanted ≡ Err fault

-- The edit doesn't touch the selection alone: it changes the tree or the markers.
abbrev pub IsPlain : Edit → Type 0
IsPlain (Select start end backward) = ⊥
IsPlain (SelectionAttribute key value) = ⊥
IsPlain edit = Unit {0}

-- The operation would exceed a limit on the tree, or memory ran out.
abbrev pub IsLimit : OpFault → Type 0
IsLimit (op.TooLarge count) = Unit {0}
IsLimit (op.TooDeep depth) = Unit {0}
IsLimit op.NoMemory = Unit {0}
IsLimit op.NoPlace = ⊥
IsLimit op.NotFlat = ⊥
IsLimit op.IntoItself = ⊥
IsLimit (op.OldDiffers found) = ⊥
IsLimit op.NotNeighbours = ⊥
IsLimit (op.CellState number) = ⊥

-- an operation's refusal as that of an edit: the limits on the tree alone can refuse an operation of an edit whose premises hold
abbrev pub limit_of : ℕ → OpFault → EditFault
limit_of edit (op.TooLarge count) = TooLarge edit count
limit_of edit (op.TooDeep depth) = TooDeep edit depth
limit_of edit op.NoPlace = NoMemory
limit_of edit op.NotFlat = NoMemory
limit_of edit op.IntoItself = NoMemory
limit_of edit (op.OldDiffers found) = NoMemory
limit_of edit op.NotNeighbours = NoMemory
limit_of edit (op.CellState number) = NoMemory
limit_of edit op.NoMemory = NoMemory
