-- What settings that are accepted give: a shape for each element of a document that obeys their schema, wherever it stands.
use Rattle.std.specs.Prelude.{◌≡◌, ℕ, List, ⊤, false, All, Contains, Option, Some, None, IsSome}
use Rattle.item_definitions.specs.Item.{Item, Items, Attributes, element}
use Rattle.item_definitions.specs.Children.{item_at}
use Rattle.converter_definitions.specs.declared.facts.Facts.{Facts}
use Rattle.converter_definitions.specs.declared.facts.Key.{Key}
use Rattle.converter_definitions.specs.declared.facts.Key.TheVariants.{Insert}
use Rattle.converter_definitions.specs.declared.part.Part.{Part}
use Rattle.converter_definitions.specs.declared.part.Part.TheVariants.{Shape, Extra}
use Rattle.converter_definitions.specs.declared.stock.StockConverter.{StockConverter}
use Rattle.converter_definitions.specs.Facts.{is_left}
use Rattle.converter_definitions.specs.Gives.{Converter, stock, boxed, Conversion, converted}
use Rattle.converter_definitions.specs.declared.plan.ConverterPlan.{ConverterPlan}
use Rattle.converter_definitions.specs.declared.plan.PlanEntry.TheVariants.{Stock}
use Rattle.ck_base.specs.Name.{is_generic}

-- each converter that the plans describe themselves is among the converters, in whatever order
abbrev pub AreListed : List ConverterPlan → List Converter → Type 0
AreListed plans converters = (plan : ConverterPlan) (converter : StockConverter) → Contains plans plan → plan.entry ≡ Stock converter
    → Contains converters (stock converter)

-- who writes attributes alone doesn't consume the element
abbrev pub LeavesElement : Option (List Key × Part) → Type 0
LeavesElement None = ⊤
LeavesElement (Some (keys, Shape form)) = ⊤
LeavesElement (Some (keys, Extra attributes)) = is_left keys Insert ≡ false

-- and no product's converter does
abbrev pub LeavesElements : Converter → Type 0
LeavesElements (stock converter) = ⊤
LeavesElements (boxed gives) = (facts : Facts) → LeavesElement (gives facts)

-- converters that are those of plans and of a product
pub record Serves (plans : List ConverterPlan) (conversion : Conversion) : Type 0 where
  pub listed : AreListed plans conversion.converters
  pub lawful : All LeavesElements conversion.converters

-- each element of a document whose name doesn't begin with `$`, as none does that an edit makes, is given a shape, whatever its parent and its index are
abbrev pub AllConverted : Conversion → List Item → Type 0
AllConverted conversion items = (path : List ℕ) (id : ℕ) (name : List ℕ) (attributes : Attributes) (children : Items) → item_at path items
    ≡ Some (element id name attributes children)
    → is_generic name ≡ false → (parent : List ℕ) (index : Option ℕ)
    → IsSome (converted conversion (record { name = name; attributes = attributes; parent = parent; index = index }))
