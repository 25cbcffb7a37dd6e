-- Names with numbers, and the map that finds a name's number.
use Rattle.std.specs.Prelude.{◌≡◌, ℕ, ◌<◌, List, [], ◌∷◌, ◌++◌, Bool, false, ◌==◌, if◌then◌else◌, Option, Some, None, length, slice_index_or}
use Rattle.std.specs.Str.{bytes_eq}
use Rattle.std.specs.BTreeMap.{BTreeMap, get}
use Rattle.ck_base.specs.Entries.{name_cmp}
use Rattle.schema_definitions.specs.Names.{has}

-- the name with this number
abbrev pub named : List (List ℕ) → ℕ → List ℕ
named names node = slice_index_or names node []

-- whether a number was found, and is this one
abbrev pub is_at : Option ℕ → ℕ → Bool
is_at None node = false
is_at (Some found) node = found == node

-- no name stands there twice
abbrev pub AreDistinct : List (List ℕ) → Type 0
AreDistinct names = (node other : ℕ) → node < length names → other < length names → (node == other) ≡ bytes_eq (named names node) (named names other)

-- the names with one more, unless it is there
abbrev pub with_name : List (List ℕ) → List ℕ → List (List ℕ)
with_name names name = if has names name then names else names ++ name ∷ []

-- the names with more of them, each once
abbrev pub with_names : List (List ℕ) → List (List ℕ) → List (List ℕ)
with_names names [] = names
with_names names (name ∷ more) = with_names (with_name names name) more

-- the map has each name's number, and nothing else
pub record IsNumbered (names : List (List ℕ)) (places : BTreeMap (List ℕ) ℕ) : Type 0 where
  pub found : (node : ℕ) → node < length names → get name_cmp places (named names node) ≡ Some node
  pub inside : (name : List ℕ) (node : ℕ) → get name_cmp places name ≡ Some node → node < length names
  pub meant : (name : List ℕ) (node : ℕ) → get name_cmp places name ≡ Some node → named names node ≡ name
