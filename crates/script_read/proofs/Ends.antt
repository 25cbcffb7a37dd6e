-- The last number of a place is its offset.
use Rattle.std.proofs.Common.{◌≡◌, ℕ, List, [], ◌∷◌, ◌++◌, Some, None, option_map, length, refl, ap, ◌∙◌, arith}
use Rattle.view_tree.specs.declared.path.ViewPlace.{ViewPlace}
use Rattle.script_definitions.specs.Places.{place_of}

-- the place of these numbers, the last of them apart
abbrev with_last : List ℕ → ℕ → ViewPlace
with_last front offset = record { path = front; offset = offset }

-- the same place below one more index
abbrev below : ℕ → ViewPlace → ViewPlace
below index place = record { path = index ∷ place.path; offset = place.offset }

place_behind : (front : List ℕ) (offset : ℕ) → place_of (front ++ offset ∷ []) ≡ Some (with_last front offset)
place_behind [] offset = refl
place_behind (index ∷ []) offset = refl
place_behind (index ∷ next ∷ front) offset = ap (option_map (below index)) (place_behind (next ∷ front) offset)

pub place_last : (whole front : List ℕ) (offset : ℕ) → whole ≡ front ++ offset ∷ [] → place_of whole ≡ Some (record { path = front; offset = offset })
place_last whole front offset e = ap place_of e ∙ place_behind front offset

pub place_nowhere : (whole : List ℕ) → length whole ≡ 0 → place_of whole ≡ None
place_nowhere [] e = refl
place_nowhere (index ∷ rest) e = absurd (omega arith)
