-- The order of converters: those of a higher priority first, and of one priority in the order in which they were added. (After the priorities of
-- CKEditor 5's event callbacks.)
use Rattle.std.specs.Prelude.{◌≡◌, ℤ, List, [], ◌∷◌, ◌++◌, int_lt, ◌<ℤ◌, ◌≤ℤ◌, if◌then◌else◌}
use Rattle.converter_definitions.specs.Gives.{Converter}

-- a converter more, behind all of equal or higher priority
abbrev pub added : ℤ × Converter → List (ℤ × Converter) → List (ℤ × Converter)
added next [] = next ∷ []
added next (other ∷ rest) = if int_lt other.0 next.0 then next ∷ other ∷ rest else other ∷ added next rest

-- each of these converters has this priority or a higher one
abbrev pub AreNotLower : ℤ → List (ℤ × Converter) → Type 0
AreNotLower priority [] = Unit {0}
AreNotLower priority (other ∷ rest) = (priority ≤ℤ other.0) × AreNotLower priority rest

-- each of these converters has a lower priority
abbrev pub AreLower : ℤ → List (ℤ × Converter) → Type 0
AreLower priority [] = Unit {0}
AreLower priority (other ∷ rest) = (other.0 <ℤ priority) × AreLower priority rest

-- each of these converters has this priority or a lower one
abbrev pub AreNotHigher : ℤ → List (ℤ × Converter) → Type 0
AreNotHigher priority [] = Unit {0}
AreNotHigher priority (other ∷ rest) = (other.0 ≤ℤ priority) × AreNotHigher priority rest

-- no converter has a higher priority than one before it
abbrev pub AreByPriority : List (ℤ × Converter) → Type 0
AreByPriority [] = Unit {0}
AreByPriority (first ∷ rest) = AreNotHigher first.0 rest × AreByPriority rest

-- the new list is the old one with this converter in it, behind all of equal or higher priority and before all of lower
pub record IsAddedTo (next : ℤ × Converter) (old new : List (ℤ × Converter)) : Type 0 where
  pub front : List (ℤ × Converter)
  pub back : List (ℤ × Converter)
  pub before : old ≡ front ++ back
  pub after : new ≡ front ++ (next ∷ back)
  pub not_lower : AreNotLower next.0 front
  pub lower : AreLower next.0 back
