-- What a product adds to an editor, by the names by which settings ask for it.
use Rattle.std.specs.Prelude.{ℕ, List, [], ◌∷◌, map, Option, Some, None, if◌then◌else◌}
use Rattle.std.specs.Str.{bytes_eq}
use Rattle.converter_definitions.specs.Gives.{Giving}
use Rattle.fix_definitions.specs.Fixes.{Fixing}

-- what its converters give, and what its fixers plan, by their names; of two of a kind with the same name the first is meant
pub record Product : Type 0 where
  pub converters : List (List ℕ × Giving)
  pub fixers : List (List ℕ × Fixing)

-- the first of a name, if there is one
abbrev pub first_named : {A : Type 0} → List (List ℕ × A) → List ℕ → Option A
first_named [] name = None
first_named (first ∷ rest) name = if bytes_eq first.0 name then Some first.1 else first_named rest name

-- the names, in their order
abbrev pub names_of : {A : Type 0} → List (List ℕ × A) → List (List ℕ)
names_of entries = map (λ entry. entry.0) entries
