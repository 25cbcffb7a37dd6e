-- The converters of a settings file, with the first place that breaks their form. A converter is an object whose `kind` says which further
-- fields it has:
--     elementToElement: model, attributes, parent, view, priority
--     elementToStructure: the same; its view is a shape
--     attributeToElement: model, value, view, priority
--     attributeToAttribute: element, model, value, view, priority
--     markerToHighlight, markerToElement: marker, view, priority
--     custom: name, priority, and where the index of an element may be asked for also index
-- `model`, `element`, `parent`, `marker`, `name` and `index` are names, `attributes` is an object of names to values, and `value` is a value;
-- `attributes`, `parent`, `element`, `value`, `index` and `priority` are optional. The fields are tested in this order, and then those that
-- aren't named. Indexes may be asked for in files of version 2. (After the helpers of CKEditor 5's `conversion.for( 'downcast' )`.)
use Rattle.std.specs.Prelude.{ℕ, ℤ, ◌+◌, List, [], ◌∷◌, Bool, true, false, Option, Some, None, Result, Ok, Err, if◌then◌else◌, codes, option_and_then, ⊤}
use Rattle.std.specs.Option.{option_map_or}
use Rattle.std.specs.Str.{bytes_eq}
use Rattle.serde_json.specs.Data.{Data, Items, no_items, item}
use Rattle.serde_json.specs.Find.{get, as_str}
use Rattle.ck_base.specs.declared.value.Value.{Value as AttributeValue}
use Rattle.json_forms.specs.declared.fault.FormFault.{FormFault}
use Rattle.json_forms.specs.declared.fault.FormFault.TheVariants.{BadField}
use Rattle.json_forms.specs.Form.{◌>>=◌, or_bad, object_at, only_fields, field_path, index_path}
use Rattle.json_names.specs.Names.{name_field, optional_name}
use Rattle.json_values.specs.Values.{value_at, attributes_field}
use Rattle.converter_definitions.specs.declared.pattern.Pattern.{Pattern}
use Rattle.converter_definitions.specs.declared.stock.StockConverter.{StockConverter}
use Rattle.converter_definitions.specs.declared.stock.StockConverter.TheVariants.{ElementToElement, ElementToStructure, AttributeToElement}
use Rattle.converter_definitions.specs.declared.stock.StockConverter.TheVariants.{AttributeToAttribute, MarkerToHighlight, MarkerToElement}
use Rattle.converter_definitions.specs.Pattern.{is_index}
use Rattle.converter_definitions.specs.declared.plan.ConverterPlan.{ConverterPlan}
use Rattle.converter_definitions.specs.declared.plan.PlanEntry.TheVariants.{Stock, Boxed}
use Rattle.converter_forms.specs.declared.parts.ConverterKind.{ConverterKind}
use Rattle.converter_forms.specs.declared.parts.ConverterKind.TheVariants.{Element, Structure, AttributeElement, Attribute, Highlight, Leaf}
use Rattle.converter_forms.specs.declared.parts.ConverterKind.TheVariants.{Custom}
use Rattle.converter_forms.specs.PatternForm.{pattern_at}
use Rattle.converter_forms.specs.PriorityForm.{priority_field}
use Rattle.converter_forms.specs.ViewForm.{viewed, element_view_at, layer_view_at, attribute_view_at, highlight_view_at, leaf_at}
use Rattle.converter_forms.specs.ShapeForm.{shape_at}

-- a converter of the settings with its priority
abbrev pub stock_plan : ℤ → StockConverter → ConverterPlan
stock_plan priority converter = record { priority = priority; entry = Stock converter }

-- the fields of a converter of elements
unfoldable pub only_element_fields : List ℕ → Data → Result ⊤ FormFault
only_element_fields path d = only_fields path (codes "kind" ∷ codes "model" ∷ codes "attributes" ∷ codes "parent" ∷ codes "view" ∷ codes "priority" ∷ []) d

-- a converter of the kind `elementToElement`
unfoldable pub element_converter_at : Bool → List ℕ → Data → Result ConverterPlan FormFault
element_converter_at indexes path d = do
  model ← name_field path (codes "model") d
  attributes ← attributes_field path (codes "attributes") d
  parent ← optional_name path (codes "parent") d
  view ← viewed (element_view_at indexes) path d
  priority ← priority_field path d
  _ ← only_element_fields path d
  Ok (stock_plan priority (ElementToElement model attributes parent view))

-- a converter of the kind `elementToStructure`
unfoldable pub structure_converter_at : Bool → List ℕ → Data → Result ConverterPlan FormFault
structure_converter_at indexes path d = do
  model ← name_field path (codes "model") d
  attributes ← attributes_field path (codes "attributes") d
  parent ← optional_name path (codes "parent") d
  view ← viewed (shape_at indexes) path d
  priority ← priority_field path d
  _ ← only_element_fields path d
  Ok (stock_plan priority (ElementToStructure model attributes parent view))

-- a field that may be there, and is a value
unfoldable pub optional_value : List ℕ → List ℕ → Data → Result (Option AttributeValue) FormFault
optional_value path name d = value_if (get name d) where
  value_if : Option Data → Result (Option AttributeValue) FormFault
  value_if None = Ok None
  value_if (Some found) = value_at (field_path path name) found >>= λ value. Ok (Some value)

-- a converter of the kind `attributeToElement`
unfoldable pub layer_converter_at : List ℕ → Data → Result ConverterPlan FormFault
layer_converter_at path d = do
  model ← name_field path (codes "model") d
  value ← optional_value path (codes "value") d
  view ← viewed layer_view_at path d
  priority ← priority_field path d
  _ ← only_fields path (codes "kind" ∷ codes "model" ∷ codes "value" ∷ codes "view" ∷ codes "priority" ∷ []) d
  Ok (stock_plan priority (AttributeToElement model value view))

-- whether what was read is the pattern of an index
abbrev pub reads_index : Result Pattern FormFault → Bool
reads_index (Ok pattern) = is_index pattern
reads_index (Err fault) = false

-- whether the text of the attribute is an index: the field `value` of the field `view`, where there is one
unfoldable pub is_index_view : Bool → Data → Bool
is_index_view indexes d = option_map_or (λ found. reads_index (pattern_at indexes [] found))
    (option_and_then (get (codes "value")) (get (codes "view") d)) false

-- the name of the elements, which has to be there where the text of the attribute is an index
unfoldable pub element_field : Bool → List ℕ → Data → Result (Option (List ℕ)) FormFault
element_field indexes path d = do
  element ← optional_name path (codes "element") d
  named_if element (is_index_view indexes d)
  where
    named_if : Option (List ℕ) → Bool → Result (Option (List ℕ)) FormFault
    named_if (Some name) counted = Ok (Some name)
    named_if None false = Ok None
    named_if None true = Err (BadField (field_path path (codes "element")))

-- a converter of the kind `attributeToAttribute`
unfoldable pub attribute_converter_at : Bool → List ℕ → Data → Result ConverterPlan FormFault
attribute_converter_at indexes path d = do
  element ← element_field indexes path d
  model ← name_field path (codes "model") d
  value ← optional_value path (codes "value") d
  view ← viewed (attribute_view_at indexes) path d
  priority ← priority_field path d
  _ ← only_fields path (codes "kind" ∷ codes "element" ∷ codes "model" ∷ codes "value" ∷ codes "view" ∷ codes "priority" ∷ []) d
  Ok (stock_plan priority (AttributeToAttribute element model value view))

-- the fields of a converter of markers
unfoldable pub only_marker_fields : List ℕ → Data → Result ⊤ FormFault
only_marker_fields path d = only_fields path (codes "kind" ∷ codes "marker" ∷ codes "view" ∷ codes "priority" ∷ []) d

-- a converter of the kind `markerToHighlight`
unfoldable pub highlight_converter_at : List ℕ → Data → Result ConverterPlan FormFault
highlight_converter_at path d = do
  marker ← name_field path (codes "marker") d
  view ← viewed highlight_view_at path d
  priority ← priority_field path d
  _ ← only_marker_fields path d
  Ok (stock_plan priority (MarkerToHighlight marker view))

-- a converter of the kind `markerToElement`
unfoldable pub leaf_converter_at : List ℕ → Data → Result ConverterPlan FormFault
leaf_converter_at path d = do
  marker ← name_field path (codes "marker") d
  view ← viewed leaf_at path d
  priority ← priority_field path d
  _ ← only_marker_fields path d
  Ok (stock_plan priority (MarkerToElement marker view))

-- the name of the elements whose index a product's converter is given
unfoldable pub index_field : Bool → List ℕ → Data → Result (Option (List ℕ)) FormFault
index_field indexes path d = if indexes then optional_name path (codes "index") d else Ok None

-- its fields where indexes may be asked for, and where they may not
unfoldable pub only_indexed_fields : List ℕ → Data → Result ⊤ FormFault
only_indexed_fields path d = only_fields path (codes "kind" ∷ codes "name" ∷ codes "priority" ∷ codes "index" ∷ []) d

-- and those where they may not
unfoldable pub only_plain_fields : List ℕ → Data → Result ⊤ FormFault
only_plain_fields path d = only_fields path (codes "kind" ∷ codes "name" ∷ codes "priority" ∷ []) d

-- that a product's converter has no other fields
unfoldable pub only_custom_fields : Bool → List ℕ → Data → Result ⊤ FormFault
only_custom_fields indexes path d = if indexes then only_indexed_fields path d else only_plain_fields path d

-- a converter of a product, of the kind `custom`
unfoldable pub custom_converter_at : Bool → List ℕ → Data → Result ConverterPlan FormFault
custom_converter_at indexes path d = do
  name ← name_field path (codes "name") d
  priority ← priority_field path d
  index ← index_field indexes path d
  _ ← only_custom_fields indexes path d
  Ok (record { priority = priority; entry = Boxed name index })

-- the kind that a word means
unfoldable pub kind_of : List ℕ → Option ConverterKind
kind_of word = if bytes_eq word (codes "elementToElement") then Some Element
    else (if bytes_eq word (codes "elementToStructure") then Some Structure
    else (if bytes_eq word (codes "attributeToElement") then Some AttributeElement
    else (if bytes_eq word (codes "attributeToAttribute") then Some Attribute
    else (if bytes_eq word (codes "markerToHighlight") then Some Highlight
    else (if bytes_eq word (codes "markerToElement") then Some Leaf
    else (if bytes_eq word (codes "custom") then Some Custom else None))))))

-- the field `kind`
unfoldable pub kind_field : List ℕ → Data → Result ConverterKind FormFault
kind_field path d = or_bad (field_path path (codes "kind")) (option_and_then kind_of (option_and_then as_str (get (codes "kind") d)))

-- a converter of this kind
unfoldable pub kind_converter_at : ConverterKind → Bool → List ℕ → Data → Result ConverterPlan FormFault
kind_converter_at Element indexes path d = element_converter_at indexes path d
kind_converter_at Structure indexes path d = structure_converter_at indexes path d
kind_converter_at AttributeElement indexes path d = layer_converter_at path d
kind_converter_at Attribute indexes path d = attribute_converter_at indexes path d
kind_converter_at Highlight indexes path d = highlight_converter_at path d
kind_converter_at Leaf indexes path d = leaf_converter_at path d
kind_converter_at Custom indexes path d = custom_converter_at indexes path d

-- a converter: the field `kind` first, and then those of its kind
unfoldable pub converter_at : Bool → List ℕ → Data → Result ConverterPlan FormFault
converter_at indexes path d = do
  _ ← object_at path d
  kind ← kind_field path d
  kind_converter_at kind indexes path d

-- converters, from this index of a list on
unfoldable pub converters_at : Bool → List ℕ → ℕ → Items → Result (List ConverterPlan) FormFault
converters_at indexes path index no_items = Ok []
converters_at indexes path index (item d rest) = do
  plan ← converter_at indexes (index_path path index) d
  more ← converters_at indexes path (index + 1) rest
  Ok (plan ∷ more)
