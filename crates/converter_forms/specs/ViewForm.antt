-- What converters make, with the first place that breaks the form:
--     an element of the view: {"name":NAME,"type":"container" or "empty","attributes":PATTERNS}, a container where there is no type
--     an attribute element: {"name":NAME,"attributes":PATTERNS,"priority":NUMBER,"id":NAME}
--     an attribute: {"key":NAME,"value":PATTERN}
--     the attribute element of a marker: {"name":NAME,"attributes":TEXTS,"priority":NUMBER,"id":NAME}, by the name of `span` where there is none
--     the UI element of a marker: {"name":NAME,"attributes":TEXTS}
-- All but the first field are optional. (After `ElementDefinition`, `HighlightDescriptor` and the view of `attributeToAttribute` of CKEditor 5.)
use Rattle.std.specs.Prelude.{ℕ, List, [], ◌∷◌, Bool, true, false, Option, Some, None, Result, Ok, if◌then◌else◌, codes, option_and_then, unwrap_or, ⊤}
use Rattle.std.specs.Str.{bytes_eq}
use Rattle.serde_json.specs.Data.{Data}
use Rattle.serde_json.specs.Find.{get, as_str}
use Rattle.json_forms.specs.declared.fault.FormFault.{FormFault}
use Rattle.json_forms.specs.Form.{◌>>=◌, or_bad, object_at, field_at, only_fields, field_path}
use Rattle.json_names.specs.Names.{name_field, optional_name}
use Rattle.converter_definitions.specs.declared.pattern.Pattern.{Pattern}
use Rattle.converter_definitions.specs.declared.stock.ElementView.{ElementView}
use Rattle.converter_definitions.specs.declared.stock.LayerView.{LayerView}
use Rattle.converter_definitions.specs.declared.stock.AttributeView.{AttributeView}
use Rattle.converter_definitions.specs.declared.stock.HighlightView.{HighlightView}
use Rattle.converter_definitions.specs.declared.stock.Leaf.{Leaf}
use Rattle.converter_forms.specs.PatternForm.{pattern_at, patterns_field, texts_field}
use Rattle.converter_forms.specs.PriorityForm.{layer_priority_field}

-- whether the word of a type is `empty`, if it is one of the two types
abbrev pub is_empty_type : List ℕ → Option Bool
is_empty_type word = if bytes_eq word (codes "container") then Some false else (if bytes_eq word (codes "empty") then Some true else None)

-- the field `type`: a container where it isn't there
unfoldable pub empty_type_field : List ℕ → Data → Result Bool FormFault
empty_type_field path d = type_if (get (codes "type") d) where
  type_if : Option Data → Result Bool FormFault
  type_if None = Ok false
  type_if (Some found) = or_bad (field_path path (codes "type")) (option_and_then is_empty_type (as_str found))

-- an element of the view
unfoldable pub element_view_at : Bool → List ℕ → Data → Result ElementView FormFault
element_view_at indexes path d = do
  _ ← object_at path d
  name ← name_field path (codes "name") d
  is_empty ← empty_type_field path d
  attributes ← patterns_field indexes path (codes "attributes") d
  _ ← only_fields path (codes "name" ∷ codes "type" ∷ codes "attributes" ∷ []) d
  Ok (record { name = name; is_empty = is_empty; attributes = attributes })

-- the fields of an attribute element
unfoldable pub only_layer_fields : List ℕ → Data → Result ⊤ FormFault
only_layer_fields path d = only_fields path (codes "name" ∷ codes "attributes" ∷ codes "priority" ∷ codes "id" ∷ []) d

-- an attribute element
unfoldable pub layer_view_at : List ℕ → Data → Result LayerView FormFault
layer_view_at path d = do
  _ ← object_at path d
  name ← name_field path (codes "name") d
  attributes ← patterns_field false path (codes "attributes") d
  priority ← layer_priority_field path d
  id ← optional_name path (codes "id") d
  _ ← only_layer_fields path d
  Ok (record { name = name; attributes = attributes; priority = priority; id = id })

-- a field that may be there, and is a pattern
unfoldable pub optional_pattern : Bool → List ℕ → List ℕ → Data → Result (Option Pattern) FormFault
optional_pattern indexes path name d = pattern_if (get name d) where
  pattern_if : Option Data → Result (Option Pattern) FormFault
  pattern_if None = Ok None
  pattern_if (Some found) = pattern_at indexes (field_path path name) found >>= λ pattern. Ok (Some pattern)

-- an attribute of the view
unfoldable pub attribute_view_at : Bool → List ℕ → Data → Result AttributeView FormFault
attribute_view_at indexes path d = do
  _ ← object_at path d
  key ← name_field path (codes "key") d
  value ← optional_pattern indexes path (codes "value") d
  _ ← only_fields path (codes "key" ∷ codes "value" ∷ []) d
  Ok (record { key = key; value = value })

-- the name of a highlight: `span` where it isn't there
unfoldable pub highlight_name_field : List ℕ → Data → Result (List ℕ) FormFault
highlight_name_field path d = do
  name ← optional_name path (codes "name") d
  Ok (unwrap_or name (codes "span"))

-- the attribute element of a marker
unfoldable pub highlight_view_at : List ℕ → Data → Result HighlightView FormFault
highlight_view_at path d = do
  _ ← object_at path d
  name ← highlight_name_field path d
  attributes ← texts_field path (codes "attributes") d
  priority ← layer_priority_field path d
  id ← optional_name path (codes "id") d
  _ ← only_layer_fields path d
  Ok (record { name = name; attributes = attributes; priority = priority; id = id })

-- the UI element of a marker
unfoldable pub leaf_at : List ℕ → Data → Result Leaf FormFault
leaf_at path d = do
  _ ← object_at path d
  name ← name_field path (codes "name") d
  attributes ← texts_field path (codes "attributes") d
  _ ← only_fields path (codes "name" ∷ codes "attributes" ∷ []) d
  Ok (record { name = name; attrs = attributes })

-- what a converter makes, read from its field `view`
abbrev pub viewed : {A : Type 0} → (List ℕ → Data → Result A FormFault) → List ℕ → Data → Result A FormFault
viewed reader path d = field_at path (codes "view") d >>= reader (field_path path (codes "view"))
