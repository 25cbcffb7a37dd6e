-- A converter put in at its place.
use Rattle.std.specs.Prelude.{◌≡◌, ℤ, suc, List, [], ◌∷◌, map, Bool, true, false, int_lt, if◌then◌else◌}
use Rattle.std.proofs.Common.{refl, ap}
use Rattle.std.specs.List.{insert}
use Rattle.converter_definitions.specs.Gives.{Converter}
use Rattle.converter_definitions.specs.Priority.{added}
use Rattle.conv_rules.specs.Listed.{place_behind}

module _ {A : Type 0} (view : A → ℤ × Converter) (next : A) where
  step : (test : Bool) (other : A) (rest : List A)
      → map view (insert rest (place_behind (view next).0 (map view rest)) next) ≡ added (view next) (map view rest)
      → map view (insert (other ∷ rest) (if test then 0 else suc (place_behind (view next).0 (map view rest))) next)
      ≡ (if test then view next ∷ view other ∷ map view rest else view other ∷ added (view next) (map view rest))
  step true other rest e = refl
  step false other rest e = ap (λ made. view other ∷ made) e

  -- put in behind all of equal or higher priority
  pub added_there : (entries : List A) → map view (insert entries (place_behind (view next).0 (map view entries)) next) ≡ added (view next) (map view entries)
  added_there [] = refl
  added_there (other ∷ rest) = step (int_lt (view other).0 (view next).0) other rest (added_there rest)
