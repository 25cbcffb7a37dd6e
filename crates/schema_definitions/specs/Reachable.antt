-- The names that can be reached from some names along pairs, in any number of steps.
use Rattle.std.specs.Prelude.{ℕ, zero, suc, ◌+◌, List, [], ◌∷◌, ◌++◌, ◌&&◌, not, if◌then◌else◌, length}
use Rattle.std.specs.Str.{bytes_eq}
use Rattle.schema_definitions.specs.Names.{has}

-- the names to which pairs lead from this one and that weren't seen before, each once
abbrev pub fresh : List (List ℕ × List ℕ) → List ℕ → List (List ℕ) → List (List ℕ)
fresh [] from seen = []
fresh (pair ∷ pairs) from seen = if bytes_eq pair.0 from && not (has seen pair.1) then pair.1 ∷ fresh pairs from (seen ++ pair.1 ∷ [])
    else fresh pairs from seen

-- the names done and those that can be reached from the waiting ones, in at most so many steps
abbrev pub followed : List (List ℕ × List ℕ) → ℕ → List (List ℕ) → List (List ℕ) → List (List ℕ)
followed pairs steps done [] = done
followed pairs zero done (name ∷ waiting) = done
followed pairs (suc steps) done (name ∷ waiting) = followed pairs steps (done ++ name ∷ []) (waiting ++ fresh pairs name (done ++ name ∷ waiting))

-- the start and all that can be reached from it: a step leads to no more names than there are pairs
unfoldable pub reachable : List (List ℕ × List ℕ) → List (List ℕ) → List (List ℕ)
reachable pairs start = followed pairs (length start + length pairs) [] start
