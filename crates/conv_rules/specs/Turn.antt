-- What a product's converter does in its turn.
use Rattle.std.specs.Prelude.{◌≡◌, List, [], ◌∷◌, Bool, true, false, ◌&&◌, not, Option, Some, None, option_map, if◌then◌else◌}
use Rattle.converter_definitions.specs.declared.facts.Key.{Key}
use Rattle.converter_definitions.specs.declared.facts.Key.TheVariants.{Insert}
use Rattle.converter_definitions.specs.declared.part.Part.{Part}
use Rattle.converter_definitions.specs.declared.part.Part.TheVariants.{Shape, Extra}
use Rattle.converter_definitions.specs.Facts.{is_left, are_left, left_without_all}
use Rattle.converter_definitions.specs.Gives.{Gift, part, Collected, with_given}

-- whether there are no keys
abbrev pub is_none_of : List Key → Bool
is_none_of [] = true
is_none_of (key ∷ keys) = false

-- a shape goes with `insert`, and extra attributes with other keys alone, one at least
abbrev pub is_lawful : List Key → Part → Bool
is_lawful keys (Shape form) = is_left keys Insert
is_lawful keys (Extra attributes) = not (is_left keys Insert) && not (is_none_of keys)

-- what a product's converter gives is lawful, if it gives anything
abbrev pub IsLawful : Option (List Key × Part) → Type 0
IsLawful None = Unit {0}
IsLawful (Some (keys, written)) = is_lawful keys written ≡ true

-- what a product's converter gives, as a gift
abbrev pub boxed_gift : Option (List Key × Part) → Option Gift
boxed_gift given = option_map (λ pair. (pair.0, part pair.1)) given

-- what is left and what is written after the turn of a converter that gives this: where all its keys are left, it takes them and writes its
-- part
abbrev pub turn_if : Bool → List Key → Part → List Key → List Key × Option Part
turn_if test keys written left = if test then (left_without_all keys left, Some written) else (left, None)

-- the turn of a converter that may give nothing
abbrev pub turn : Option (List Key × Part) → List Key → List Key × Option Part
turn None left = (left, None)
turn (Some (keys, written)) left = turn_if (are_left left keys) keys written left

-- what was made with what is written, where these keys are left
abbrev pub with_written : Option Part → List Key → Collected → Collected
with_written None left made = record made { left = left }
with_written (Some written) left made = with_given (part written) (record made { left = left })
