-- The names in a list of converters that have to be items, the names of products' converters, and the items that need a converter.
use Rattle.std.specs.Prelude.{ℕ, List, [], ◌∷◌, ◌++◌, Bool, true, false, not, ◌&&◌, ◌||◌, is_none, Option, Some, None, if◌then◌else◌, find}
use Rattle.std.specs.List.{list_any}
use Rattle.std.specs.Option.{option_or}
use Rattle.std.specs.Str.{bytes_eq}
use Rattle.ck_base.specs.declared.value.Value.{Value as AttributeValue}
use Rattle.ck_base.specs.Name.{is_generic}
use Rattle.schema_definitions.specs.Names.{has}
use Rattle.converter_definitions.specs.declared.stock.StockConverter.TheVariants.{ElementToElement, ElementToStructure, AttributeToElement}
use Rattle.converter_definitions.specs.declared.stock.StockConverter.TheVariants.{AttributeToAttribute, MarkerToHighlight, MarkerToElement}
use Rattle.converter_definitions.specs.declared.plan.ConverterPlan.{ConverterPlan}
use Rattle.converter_definitions.specs.declared.plan.PlanEntry.{PlanEntry}
use Rattle.converter_definitions.specs.declared.plan.PlanEntry.TheVariants.{Stock, Boxed}

-- a name that isn't among the known ones
abbrev pub unless_known : List (List ℕ) → List ℕ → Option (List ℕ)
unless_known known name = if has known name then None else Some name

-- and of a name that may be there
abbrev pub unless_all_known : List (List ℕ) → Option (List ℕ) → Option (List ℕ)
unless_all_known known None = None
unless_all_known known (Some name) = unless_known known name

-- The names of a converter that have to be items: the element that it converts and its parent, the elements whose attribute it converts, and
-- those whose index it is given. Keys of attributes and the names of markers, of products' converters and of the view are no items.
abbrev pub unknown_of_entry : List (List ℕ) → PlanEntry → Option (List ℕ)
unknown_of_entry known (Stock (ElementToElement model attributes parent view)) = option_or (unless_known known model) (unless_all_known known parent)
unknown_of_entry known (Stock (ElementToStructure model attributes parent view)) = option_or (unless_known known model) (unless_all_known known parent)
unknown_of_entry known (Stock (AttributeToElement model value view)) = None
unknown_of_entry known (Stock (AttributeToAttribute element model value view)) = unless_all_known known element
unknown_of_entry known (Stock (MarkerToHighlight marker view)) = None
unknown_of_entry known (Stock (MarkerToElement marker view)) = None
unknown_of_entry known (Boxed name index) = unless_all_known known index

-- the first name, in the order of reading, that has to be an item and isn't among the known ones
abbrev pub first_unknown_item : List (List ℕ) → List ConverterPlan → Option (List ℕ)
first_unknown_item known [] = None
first_unknown_item known (plan ∷ plans) = option_or (unknown_of_entry known plan.entry) (first_unknown_item known plans)

-- whether a converter is the product's of this name
abbrev pub is_custom : PlanEntry → List ℕ → Bool
is_custom (Stock converter) name = false
is_custom (Boxed custom index) name = bytes_eq custom name

-- whether one of some converters is the product's of this name
abbrev pub uses : List ConverterPlan → List ℕ → Bool
uses plans name = list_any (λ plan. is_custom plan.entry name) plans

-- the name of a product's converter that wasn't handed in, or that a converter before it has
abbrev pub unknown_custom : List (List ℕ) → List ConverterPlan → PlanEntry → Option (List ℕ)
unknown_custom handed_in before (Stock converter) = None
unknown_custom handed_in before (Boxed name index) = if has handed_in name && not (uses before name) then None else Some name

-- the first such name, behind these converters
abbrev pub unknown_custom_from : List (List ℕ) → List ConverterPlan → List ConverterPlan → Option (List ℕ)
unknown_custom_from handed_in before [] = None
unknown_custom_from handed_in before (plan ∷ plans) = option_or (unknown_custom handed_in before plan.entry)
    (unknown_custom_from handed_in (before ++ plan ∷ []) plans)

-- the first name of a product's converter that wasn't handed in, or that a converter before it has
abbrev pub first_unknown_custom : List (List ℕ) → List ConverterPlan → Option (List ℕ)
first_unknown_custom handed_in plans = unknown_custom_from handed_in [] plans

-- whether there are no attributes
abbrev pub is_bare : List (List ℕ × AttributeValue) → Bool
is_bare [] = true
is_bare (entry ∷ attributes) = false

-- Whether a converter makes an element of each element of this name: one of the settings that asks for no attributes and no parent. A
-- product's converter is never one.
abbrev pub is_unconditional : PlanEntry → List ℕ → Bool
is_unconditional (Stock (ElementToElement model attributes parent view)) name = is_bare attributes && is_none parent && bytes_eq model name
is_unconditional (Stock (ElementToStructure model attributes parent view)) name = is_bare attributes && is_none parent && bytes_eq model name
is_unconditional (Stock (AttributeToElement model value view)) name = false
is_unconditional (Stock (AttributeToAttribute element model value view)) name = false
is_unconditional (Stock (MarkerToHighlight marker view)) name = false
is_unconditional (Stock (MarkerToElement marker view)) name = false
is_unconditional (Boxed custom index) name = false

-- whether some converter makes an element of each element of this name
abbrev pub converts : List ConverterPlan → List ℕ → Bool
converts plans name = list_any (λ plan. is_unconditional plan.entry name) plans

-- the first of these items that isn't generic and that has no such converter
abbrev pub first_without_converter : List ConverterPlan → List (List ℕ) → Option (List ℕ)
first_without_converter plans registered = find (λ name. not (is_generic name || converts plans name)) registered
