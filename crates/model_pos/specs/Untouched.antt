-- A position that the rules for a parent don't concern.
use Rattle.std.specs.Prelude.{◌≡◌, ℕ, List, [], unwrap_or}
use Rattle.item_definitions.specs.Shift.{within, rest_behind}

-- a position is neither in nor below a parent, or it is the parent's path
abbrev pub IsOutside : List ℕ → List ℕ → Type 0
IsOutside parent position = unwrap_or (rest_behind parent position) [] ≡ []

-- no rule that leaves the empty path changes a position
abbrev pub Untouched : List ℕ → List ℕ → Type 0
Untouched parent position = (rule : List ℕ → List ℕ) → rule [] ≡ [] → within parent rule position ≡ position
