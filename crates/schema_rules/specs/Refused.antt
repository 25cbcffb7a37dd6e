-- Why a schema file is refused.
use Rattle.std.specs.Prelude.{◌≡◌, ◌≢◌, ℕ, List, Bool, not, Option, Some, None, Result, Ok, Err}
use Rattle.schema_definitions.specs.declared.fault.SchemaFault.{SchemaFault}
use Rattle.schema_definitions.specs.declared.fault.SchemaFault.TheVariants.{NoMemory}
use Rattle.schema_definitions.specs.Names.{has}

-- the answer is a fault exactly where there is this reason, and then this fault, unless memory ran out
abbrev pub Refuses : {X : Type 0} → Result X SchemaFault → Option SchemaFault → Type 0
Refuses (Ok x) reason = reason ≡ None
Refuses (Err fault) reason = fault ≢ NoMemory → reason ≡ Some fault

-- a name that isn't among the known ones
abbrev pub is_unknown : List (List ℕ) → List ℕ → Bool
is_unknown known name = not (has known name)
