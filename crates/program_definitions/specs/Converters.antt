-- What settings convert by: their converters, those of a higher priority first and of one priority in the order of the file, where a product's
-- converter is the first that was handed in by its name.
use Rattle.std.specs.Prelude.{ℕ, ℤ, List, [], ◌∷◌, map, ◌==◌, None, unwrap_or}
use Rattle.schema_definitions.specs.Allowed.{inline_objects}
use Rattle.converter_definitions.specs.Gives.{Converter, stock, boxed, Conversion}
use Rattle.converter_definitions.specs.Gives.{Giving}
use Rattle.converter_definitions.specs.Priority.{added}
use Rattle.converter_definitions.specs.declared.plan.ConverterPlan.{ConverterPlan}
use Rattle.converter_definitions.specs.declared.plan.PlanEntry.{PlanEntry}
use Rattle.converter_definitions.specs.declared.plan.PlanEntry.TheVariants.{Stock, Boxed}
use Rattle.settings_definitions.specs.Settings.{Settings}
use Rattle.program_definitions.specs.Product.{first_named}

-- a converter of the settings; a product's one that wasn't handed in would give nothing
abbrev pub converter_of : List (List ℕ × Giving) → PlanEntry → Converter
converter_of handed_in (Stock converter) = stock converter
converter_of handed_in (Boxed name index) = boxed (unwrap_or (first_named handed_in name) (λ facts. None))

-- these converters with those of plans, each behind all of equal or higher priority
abbrev pub all_added : List (List ℕ × Giving) → List (ℤ × Converter) → List ConverterPlan → List (ℤ × Converter)
all_added handed_in made [] = made
all_added handed_in made (plan ∷ plans) = all_added handed_in (added (plan.priority, converter_of handed_in plan.entry) made) plans

-- what converters of settings make of elements, with the names of the objects in the text and those of the elements that are counted, where
-- in version 2 layers are joined: each joins the first kept one that agrees with it
abbrev pub conversion_by : List (List ℕ × Giving) → ℕ → List ConverterPlan → List (List ℕ) → List (List ℕ) → Conversion
conversion_by handed_in version plans objects indexed = record {
  converters = map (λ entry. entry.1) (all_added handed_in [] plans);
  objects = objects;
  joined = version == 2;
  indexed = indexed;
}

-- what settings convert by
abbrev pub conversion_of : List (List ℕ × Giving) → Settings → Conversion
conversion_of handed_in settings = conversion_by handed_in settings.version settings.converters (inline_objects settings.rules) settings.indexed
