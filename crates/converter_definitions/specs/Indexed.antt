-- The names of the elements that are counted: of those a converter of the settings writes the index, or a product's converter is given it.
use Rattle.std.specs.Prelude.{ℕ, List, [], ◌∷◌, ◌++◌, Bool, true, false, ◌||◌, Option, Some, None, if◌then◌else◌, fold}
use Rattle.std.specs.List.{list_any}
use Rattle.std.specs.Option.{option_map_or}
use Rattle.schema_definitions.specs.Names.{has}
use Rattle.converter_definitions.specs.declared.stock.StockConverter.TheVariants.{ElementToElement, ElementToStructure, AttributeToElement}
use Rattle.converter_definitions.specs.declared.stock.StockConverter.TheVariants.{AttributeToAttribute, MarkerToHighlight, MarkerToElement}
use Rattle.converter_definitions.specs.Form.{Form, Forms, slot, text, element, none, more}
use Rattle.converter_definitions.specs.Pattern.{Patterns, is_index}
use Rattle.converter_definitions.specs.declared.plan.ConverterPlan.{ConverterPlan}
use Rattle.converter_definitions.specs.declared.plan.PlanEntry.{PlanEntry}
use Rattle.converter_definitions.specs.declared.plan.PlanEntry.TheVariants.{Stock, Boxed}

-- whether the text of one of these attributes is an index
abbrev pub has_index : Patterns → Bool
has_index patterns = list_any (λ entry. is_index entry.1) patterns

abbrev mutual
  -- and that of one of an element in a shape
  pub form_has_index : Form Patterns → Bool
  form_has_index slot = false
  form_has_index (text scalars) = false
  form_has_index (element kind name attributes children) = has_index attributes || forms_have_index children

  -- and that of one of an element in some nodes
  pub forms_have_index : Forms Patterns → Bool
  forms_have_index none = false
  forms_have_index (more form forms) = form_has_index form || forms_have_index forms

-- a name, where a test holds
abbrev pub name_if : Bool → List ℕ → Option (List ℕ)
name_if true name = Some name
name_if false name = None

-- The name of the elements that are counted for a converter. Attribute elements and the elements of markers have no index.
abbrev pub counted_by : PlanEntry → Option (List ℕ)
counted_by (Stock (ElementToElement model attributes parent view)) = name_if (has_index view.attributes) model
counted_by (Stock (ElementToStructure model attributes parent view)) = name_if (form_has_index view) model
counted_by (Stock (AttributeToElement model value view)) = None
counted_by (Stock (AttributeToAttribute wanted model value view)) = if option_map_or is_index view.value false then wanted else None
counted_by (Stock (MarkerToHighlight marker view)) = None
counted_by (Stock (MarkerToElement marker view)) = None
counted_by (Boxed name index) = index

-- a name more, if there is one that isn't among the names
abbrev pub with_name : List (List ℕ) → Option (List ℕ) → List (List ℕ)
with_name names None = names
with_name names (Some name) = if has names name then names else names ++ name ∷ []

-- the names of the elements that are counted for converters, each once, in the order in which they are read
abbrev pub indexed_names : List ConverterPlan → List (List ℕ)
indexed_names plans = fold (λ names plan. with_name names (counted_by plan.entry)) [] plans
