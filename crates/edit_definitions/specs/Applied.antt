-- What may become of the operations of an edit.
use Rattle.std.specs.Prelude.{Result, Ok, Err}
use Rattle.ck_base.specs.declared.faults.EditFault.{EditFault}
use Rattle.ck_base.specs.declared.faults.EditFault.TheVariants.{NotRegistered, BadPosition, BadRange, BadTarget, MarkerExists, MarkerUnknown, IdsSpent}
use Rattle.ck_base.specs.declared.faults.EditFault.TheVariants.{TooLarge, TooDeep, NoMemory}
use Rattle.operation_definitions.specs.Operation.{Fault, no_place, not_flat, into_itself, old_differs, not_neighbours, cell_state, too_large, too_deep}
use Rattle.document_definitions.specs.Document.{State}

-- the tree would be over one of its limits
abbrev pub IsOverLimit : Fault → Type 0
IsOverLimit (too_large count) = Unit {0}
IsOverLimit (too_deep depth) = Unit {0}
IsOverLimit no_place = ⊥
IsOverLimit not_flat = ⊥
IsOverLimit into_itself = ⊥
IsOverLimit (old_differs found) = ⊥
IsOverLimit not_neighbours = ⊥
IsOverLimit (cell_state number) = ⊥

-- all operations could be applied, or the first that couldn't would have made a tree that is over a limit
abbrev pub AreApplied : Result State Fault → Type 0
AreApplied (Ok state) = Unit {0}
AreApplied (Err fault) = IsOverLimit fault

-- a fault of the edit itself, or a limit that it would exceed: not the want of memory, which no definition knows of
abbrev pub IsTold : EditFault → Type 0
IsTold NoMemory = ⊥
IsTold (NotRegistered edit name) = Unit {0}
IsTold (BadPosition edit path) = Unit {0}
IsTold (BadRange edit start end) = Unit {0}
IsTold (BadTarget edit path) = Unit {0}
IsTold (MarkerExists edit name) = Unit {0}
IsTold (MarkerUnknown edit name) = Unit {0}
IsTold (IdsSpent edit) = Unit {0}
IsTold (TooLarge edit count) = Unit {0}
IsTold (TooDeep edit depth) = Unit {0}
