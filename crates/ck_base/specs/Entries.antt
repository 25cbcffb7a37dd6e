-- A finite map from names to values, as the list of its pairs in the order of the names' bytes.
use Rattle.std.specs.Prelude.{◌≡◌, ◌≢◌, ℕ, ◌+◌, List, [], ◌∷◌, true, Option, Result, Ok, Err}
use Rattle.std.specs.Ordering.{nat_cmp, match_ordering}
use Rattle.std.specs.declared.cmp.Ordering.{Ordering}
use Rattle.std.specs.Cmp.Lexicographic.{slice_cmp}
use Rattle.std.specs.FinMap.{find, put, is_sorted}

-- how two names compare, byte by byte, a proper prefix first
abbrev pub name_cmp : List ℕ → List ℕ → Ordering
name_cmp = slice_cmp nat_cmp

-- each name comes before all that follow
abbrev pub IsOrdered : {V : Type 0} → List (List ℕ × V) → Type 0
IsOrdered entries = is_sorted name_cmp entries ≡ true

-- the value that a name has, if it has one
abbrev pub value_of : {V : Type 0} → List ℕ → List (List ℕ × V) → Option V
value_of key entries = find name_cmp key entries

-- the same map, but that the name has this value
abbrev pub with_value : {V : Type 0} → List ℕ → V → List (List ℕ × V) → List (List ℕ × V)
with_value key value entries = put name_cmp key value entries

-- the same map without the name
abbrev pub without : {V : Type 0} → List ℕ → List (List ℕ × V) → List (List ℕ × V)
without key [] = []
without key (entry ∷ rest) = match_ordering (name_cmp key entry.0) (entry ∷ rest) rest (entry ∷ without key rest)

-- Ok with the index of the name, or Err with the index at which it would go in, counted from the given number
abbrev pub place_from : {V : Type 0} → List ℕ → ℕ → List (List ℕ × V) → Result ℕ ℕ
place_from key index [] = Err index
place_from key index (entry ∷ rest) = match_ordering (name_cmp key entry.0) (Err index) (Ok index) (place_from key (index + 1) rest)

-- the second map gives the name this value, or none, and each other name what the first one gives it
pub record ChangesOnly {V : Type 0} (old new : List (List ℕ × V)) (key : List ℕ) (value : Option V) : Type 0 where
  pub changed : value_of key new ≡ value
  pub others : (other : List ℕ) → other ≢ key → value_of other new ≡ value_of other old
