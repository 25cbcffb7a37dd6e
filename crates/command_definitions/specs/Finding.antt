-- What it means that edits name no place that isn't there.
use Rattle.std.specs.Prelude.{Result, Ok, Err}
use Rattle.ck_base.specs.declared.faults.EditFault.{EditFault}
use Rattle.ck_base.specs.declared.faults.EditFault.TheVariants.{NotRegistered, BadPosition, BadRange, BadTarget, MarkerExists, MarkerUnknown, IdsSpent}
use Rattle.ck_base.specs.declared.faults.EditFault.TheVariants.{TooLarge, TooDeep, NoMemory}

-- the fault isn't that a position, a range or an element isn't there: a name isn't registered, ids are spent, or the tree would be over a limit
abbrev pub IsOfNoPlace : EditFault → Type 0
IsOfNoPlace (BadPosition edit path) = ⊥
IsOfNoPlace (BadRange edit start end) = ⊥
IsOfNoPlace (BadTarget edit path) = ⊥
IsOfNoPlace (NotRegistered edit name) = Unit {0}
IsOfNoPlace (MarkerExists edit name) = Unit {0}
IsOfNoPlace (MarkerUnknown edit name) = Unit {0}
IsOfNoPlace (IdsSpent edit) = Unit {0}
IsOfNoPlace (TooLarge edit count) = Unit {0}
IsOfNoPlace (TooDeep edit depth) = Unit {0}
IsOfNoPlace NoMemory = Unit {0}

-- edits were made, or the first that wasn't has such a fault
abbrev pub FindsPlaces : {A : Type 0} → Result A EditFault → Type 0
FindsPlaces (Ok made) = Unit {0}
FindsPlaces (Err fault) = IsOfNoPlace fault
