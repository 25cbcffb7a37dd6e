-- What is read of a JSON text, for worked rows.
use Rattle.std.specs.Prelude.{ℕ, ℤ, List, [], Bool, true, Result, Ok}
use Rattle.serde_json.specs.Find.{as_array}
use Rattle.json_forms.specs.declared.fault.FormFault.{FormFault}
use Rattle.json_forms.specs.Form.{◌>>=◌, or_bad, json_of}
use Rattle.converter_definitions.specs.declared.pattern.Pattern.{Pattern}
use Rattle.converter_definitions.specs.Form.{Form}
use Rattle.converter_definitions.specs.Pattern.{Patterns}
use Rattle.converter_definitions.specs.declared.plan.ConverterPlan.{ConverterPlan}
use Rattle.converter_forms.specs.PatternForm.{pattern_at}
use Rattle.converter_forms.specs.PriorityForm.{priority_field}
use Rattle.converter_forms.specs.ShapeForm.{shape_at}
use Rattle.converter_forms.specs.ConverterForm.{converter_at, converters_at}
use Rattle.converter_definitions.specs.Indexed.{indexed_names}

-- a converter, and a list of them
abbrev pub converter_in : Bool → List ℕ → Result ConverterPlan FormFault
converter_in indexes text = json_of text >>= converter_at indexes []

-- a list of converters
abbrev pub converters_in : Bool → List ℕ → Result (List ConverterPlan) FormFault
converters_in indexes text = do
  d ← json_of text
  items ← or_bad [] (as_array d)
  converters_at indexes [] 0 items

-- the names of the elements that are counted for a list of converters that may ask for an index
abbrev pub counted_in : List ℕ → Result (List (List ℕ)) FormFault
counted_in text = do
  plans ← converters_in true text
  Ok (indexed_names plans)

-- a pattern, a shape, and the priority of an object
abbrev pub pattern_in : Bool → List ℕ → Result Pattern FormFault
pattern_in indexes text = json_of text >>= pattern_at indexes []

-- a shape
abbrev pub shape_in : Bool → List ℕ → Result (Form Patterns) FormFault
shape_in indexes text = json_of text >>= shape_at indexes []

-- the priority of an object
abbrev pub priority_in : List ℕ → Result ℤ FormFault
priority_in text = json_of text >>= priority_field []
