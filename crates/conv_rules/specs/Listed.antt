-- The converters of a list.
use Rattle.std.specs.Prelude.{ℕ, ℤ, suc, ◌+◌, List, [], ◌∷◌, map, int_lt, if◌then◌else◌}
use Rattle.std.specs.Global.{Global}
use Rattle.std.specs.declared.dyn_box.DynBox.{DynBox}
use Rattle.converter_definitions.specs.Gives.{Giving, Converter, stock, boxed, Conversion, Converted}
use Rattle.conv_rules.specs.declared.list.Entry.{Entry}
use Rattle.conv_rules.specs.declared.list.Entry.TheVariants as entry
use Rattle.conv_rules.specs.declared.list.Listed.{Listed}
use Rattle.conv_rules.specs.declared.list.ConverterList.{ConverterList}
use Rattle.conv_rules.specs.declared.shaping.Converted.{Converted as Made}

-- a converter as the definitions have it, by what the product's ones give
abbrev pub converter_of : {X : Type 0} {Y : X → Type 0} → (DynBox X Global Y → Giving) → Entry X Y → Converter
converter_of gives (entry.Stock converter) = stock converter
converter_of gives (entry.Boxed name object) = boxed (gives object)

-- the converters of these entries
abbrev pub converters_of : {X : Type 0} {Y : X → Type 0} → (DynBox X Global Y → Giving) → List (Listed X Y) → List Converter
converters_of gives entries = map (λ listed. converter_of gives listed.entry) entries

-- what a list converts by
abbrev pub conversion_of : {X : Type 0} {Y : X → Type 0} → (DynBox X Global Y → Giving) → ConverterList X Y → Conversion
conversion_of gives list =
    record { converters = converters_of gives list.entries.items; objects = list.objects.items; joined = list.joined; indexed = list.indexed.items }

-- the converters of entries and of a list, each with its priority
abbrev pub listed : {X : Type 0} {Y : X → Type 0} → (DynBox X Global Y → Giving) → List (Listed X Y) → List (ℤ × Converter)
listed gives entries = map (λ listed. (listed.priority, converter_of gives listed.entry)) entries

-- those of a list
abbrev pub listed_of : {X : Type 0} {Y : X → Type 0} → (DynBox X Global Y → Giving) → ConverterList X Y → List (ℤ × Converter)
listed_of gives list = listed gives list.entries.items

-- how many there are before the first of a lower priority
abbrev pub place_behind : ℤ → List (ℤ × Converter) → ℕ
place_behind priority [] = 0
place_behind priority (other ∷ rest) = if int_lt other.0 priority then 0 else suc (place_behind priority rest)

-- how many of the converters are a product's
abbrev pub boxed_count : List Converter → ℕ
boxed_count [] = 0
boxed_count (stock converter ∷ converters) = boxed_count converters
boxed_count (boxed gives ∷ converters) = 1 + boxed_count converters

-- what an element becomes, as the definitions have it
abbrev pub converted_view : Made → Converted
converted_view made = record { form = made.shape; layers = made.layers.items }
