-- The names in a list of fixers that have to be items, and the names of products' fixers.
use Rattle.std.specs.Prelude.{ℕ, List, [], ◌∷◌, ◌++◌, Bool, false, not, ◌&&◌, Option, Some, None, if◌then◌else◌}
use Rattle.std.specs.List.{list_any}
use Rattle.std.specs.Option.{option_or}
use Rattle.std.specs.Str.{bytes_eq}
use Rattle.schema_definitions.specs.Names.{has}
use Rattle.converter_definitions.specs.PlanNames.{unless_known}
use Rattle.fix_definitions.specs.declared.stock.StockFixer.TheVariants.{DropAttributes, Fill, JoinNeighbours, RemoveEmpty, Require, SelectionPlace}
use Rattle.fix_definitions.specs.declared.plan.FixerPlan.{FixerPlan}
use Rattle.fix_definitions.specs.declared.plan.FixerPlan.TheVariants.{Stock, Boxed}

-- The first name of a fixer that has to be an item and isn't among the known ones: those of the elements that it is about, in the order of its fields.
-- The name of a product's fixer is no item.
abbrev pub unknown_of_fixer : List (List ℕ) → FixerPlan → Option (List ℕ)
unknown_of_fixer known (Stock DropAttributes) = None
unknown_of_fixer known (Stock (Fill parent child)) = option_or (unless_known known parent) (unless_known known child)
unknown_of_fixer known (Stock (JoinNeighbours name)) = unless_known known name
unknown_of_fixer known (Stock (RemoveEmpty name)) = unless_known known name
unknown_of_fixer known (Stock (Require parent child)) = option_or (unless_known known parent) (unless_known known child)
unknown_of_fixer known (Stock SelectionPlace) = None
unknown_of_fixer known (Boxed name) = None

-- the first name, in the order of reading, that has to be an item and isn't among the known ones
abbrev pub first_unknown_of_fixers : List (List ℕ) → List FixerPlan → Option (List ℕ)
first_unknown_of_fixers known [] = None
first_unknown_of_fixers known (fixer ∷ fixers) = option_or (unknown_of_fixer known fixer) (first_unknown_of_fixers known fixers)

-- whether a fixer is the product's of this name
abbrev pub is_custom_fixer : FixerPlan → List ℕ → Bool
is_custom_fixer (Stock fixer) name = false
is_custom_fixer (Boxed custom) name = bytes_eq custom name

-- whether one of some fixers is the product's of this name
abbrev pub uses_fixer : List FixerPlan → List ℕ → Bool
uses_fixer fixers name = list_any (λ fixer. is_custom_fixer fixer name) fixers

-- the name of a product's fixer that wasn't handed in, or that a fixer before it has
abbrev pub unknown_custom_fixer : List (List ℕ) → List FixerPlan → FixerPlan → Option (List ℕ)
unknown_custom_fixer handed_in before (Stock fixer) = None
unknown_custom_fixer handed_in before (Boxed name) = if has handed_in name && not (uses_fixer before name) then None else Some name

-- the first such name, behind these fixers
abbrev pub unknown_custom_fixer_from : List (List ℕ) → List FixerPlan → List FixerPlan → Option (List ℕ)
unknown_custom_fixer_from handed_in before [] = None
unknown_custom_fixer_from handed_in before (fixer ∷ fixers) = option_or (unknown_custom_fixer handed_in before fixer)
    (unknown_custom_fixer_from handed_in (before ++ fixer ∷ []) fixers)

-- the first name of a product's fixer that wasn't handed in, or that a fixer before it has
abbrev pub first_unknown_custom_fixer : List (List ℕ) → List FixerPlan → Option (List ℕ)
first_unknown_custom_fixer handed_in fixers = unknown_custom_fixer_from handed_in [] fixers
