-- What converters give an element, and what it becomes by all of them.
use Rattle.std.specs.Prelude.{ℕ, List, [], ◌∷◌, ◌++◌, Bool, true, false, ◌&&◌, Option, Some, None, is_some, option_map, fold, map, if◌then◌else◌}
use Rattle.std.specs.List.{list_all}
use Rattle.std.specs.Option.{option_map_or}
use Rattle.std.specs.Str.{bytes_eq}
use Rattle.std.specs.Map.{keys_of}
use Rattle.ck_base.specs.declared.value.Value.{Value as AttributeValue}
use Rattle.ck_base.specs.Entries.{value_of}
use Rattle.item_definitions.specs.Item.{Attributes}
use Rattle.operation_definitions.specs.After.{same_value}
use Rattle.schema_definitions.specs.Names.{has}
use Rattle.view_definitions.specs.Node.{ViewAttributes}
use Rattle.view_definitions.specs.Layer.{Layer}
use Rattle.converter_definitions.specs.declared.kind.ShapeKind.TheVariants.{Container, Empty}
use Rattle.converter_definitions.specs.declared.facts.Facts.{Facts}
use Rattle.converter_definitions.specs.declared.facts.Key.{Key}
use Rattle.converter_definitions.specs.declared.facts.Key.TheVariants.{Insert, Attribute}
use Rattle.converter_definitions.specs.declared.part.Part.{Part}
use Rattle.converter_definitions.specs.declared.part.Part.TheVariants.{Shape, Extra}
use Rattle.converter_definitions.specs.declared.stock.StockConverter.{StockConverter}
use Rattle.converter_definitions.specs.declared.stock.StockConverter.TheVariants.{ElementToElement, ElementToStructure, AttributeToElement}
use Rattle.converter_definitions.specs.declared.stock.StockConverter.TheVariants.{AttributeToAttribute, MarkerToHighlight, MarkerToElement}
use Rattle.converter_definitions.specs.declared.stock.ElementView.{ElementView}
use Rattle.converter_definitions.specs.declared.stock.LayerView.{LayerView}
use Rattle.converter_definitions.specs.declared.stock.AttributeView.{AttributeView}
use Rattle.converter_definitions.specs.Form.{Form, slot, element, forms_of}
use Rattle.converter_definitions.specs.Facts.{all_keys, are_left, left_without_all}
use Rattle.converter_definitions.specs.Pattern.{Patterns, printed_value, text_of, texts_of, with_text}
use Rattle.converter_definitions.specs.Shape.{form_with, with_outer}
use Rattle.converter_definitions.specs.Views.{with_extra}

-- what a converter gives: a part, or a layer around the element
pub data Given : Type 0 where
  part : Part → Given
  layer : Layer → Given

-- the keys that a converter consumes, and what it writes
abbrev pub Gift : Type 0
Gift = List Key × Given

-- what a product's converter gives
abbrev pub Giving : Type 0
Giving = Facts → Option (List Key × Part)

-- a converter: one of the settings, or one of a product, by what it gives
pub data Converter : Type 0 where
  stock : StockConverter → Converter
  boxed : Giving → Converter

-- the converters in their order, the names of the elements that are objects in the text, whether layers are joined, and the names whose
-- elements are counted
pub record Conversion : Type 0 where
  pub converters : List Converter
  pub objects : List (List ℕ)
  pub joined : Bool
  pub indexed : List (List ℕ)

-- an attribute has the value that is wanted, if one is
abbrev pub has_value : Attributes → List ℕ → Option AttributeValue → Bool
has_value attributes key None = is_some (value_of key attributes)
has_value attributes key (Some value) = same_value (value_of key attributes) (Some value)

-- the name is the one that is wanted, if one is
abbrev pub is_named : Option (List ℕ) → List ℕ → Bool
is_named wanted name = option_map_or (bytes_eq name) wanted true

-- an element of this name, with these attributes and such a parent
abbrev pub is_meant : List ℕ → Attributes → Option (List ℕ) → Facts → Bool
is_meant model attributes parent facts =
    bytes_eq facts.name model && list_all (λ entry. has_value facts.attributes entry.0 (Some entry.1)) attributes && is_named parent facts.parent

-- it is consumed with these attributes
abbrev pub insert_keys : Attributes → List Key
insert_keys attributes = Insert ∷ map Attribute (keys_of attributes)

-- where a test holds
abbrev pub gift_if : Bool → Gift → Option Gift
gift_if true gift = Some gift
gift_if false gift = None

-- the texts of patterns for an element
abbrev pub filled_in : Facts → Patterns → ViewAttributes
filled_in facts patterns = texts_of facts.attributes facts.index patterns

-- one element of the view, with the slot in it if it has content
abbrev pub element_form : ElementView → Form Patterns
element_form view =
    if view.is_empty then element Empty view.name view.attributes (forms_of []) else element Container view.name view.attributes (forms_of (slot ∷ []))

-- a shape whose patterns are filled in
abbrev pub shape_gift : Facts → Attributes → Form Patterns → Gift
shape_gift facts attributes form = (insert_keys attributes, part (Shape (form_with (filled_in facts) form)))

-- the layer of an attribute
abbrev pub layer_from : Attributes → LayerView → Layer
layer_from attributes view = record { name = view.name; attrs = texts_of attributes None view.attributes; priority = view.priority; id = view.id }

-- the text of a view attribute: that of its pattern, or without one the value of the model's attribute
abbrev pub attribute_text : Facts → List ℕ → AttributeView → Option (List ℕ)
attribute_text facts model view =
    option_map_or (text_of facts.attributes facts.index) view.value (option_map printed_value (value_of model facts.attributes))

-- what a converter of the settings gives an element. An attribute becomes an attribute element around objects in the text alone, and markers
-- are no matter of elements
abbrev pub stock_gift : List (List ℕ) → StockConverter → Facts → Option Gift
stock_gift objects (ElementToElement model attributes parent view) facts =
    gift_if (is_meant model attributes parent facts) (shape_gift facts attributes (element_form view))
stock_gift objects (ElementToStructure model attributes parent view) facts =
    gift_if (is_meant model attributes parent facts) (shape_gift facts attributes view)
stock_gift objects (AttributeToElement model value view) facts =
    gift_if (has_value facts.attributes model value && has objects facts.name) (Attribute model ∷ [], layer (layer_from facts.attributes view))
stock_gift objects (AttributeToAttribute wanted model value view) facts =
    gift_if (is_named wanted facts.name && has_value facts.attributes model value)
    (Attribute model ∷ [], part (Extra (with_text view.key (attribute_text facts model view) [])))
stock_gift objects (MarkerToHighlight marker view) facts = None
stock_gift objects (MarkerToElement marker view) facts = None

-- what a converter gives an element
abbrev pub gift : List (List ℕ) → Facts → Converter → Option Gift
gift objects facts (stock converter) = stock_gift objects converter facts
gift objects facts (boxed gives) = option_map (λ given. (given.0, part given.1)) (gives facts)

-- what was given so far, and which keys are left: the shape, the extra attributes, and the layers, in the order of the converters
pub record Collected : Type 0 where
  pub left : List Key
  pub form : Option (Form ViewAttributes)
  pub extras : List ViewAttributes
  pub layers : List Layer

-- what was made with what a converter gives
abbrev pub with_given : Given → Collected → Collected
with_given (part (Shape form)) made = record made { form = Some form }
with_given (part (Extra attributes)) made = record made { extras = made.extras ++ attributes ∷ [] }
with_given (layer outer) made = record made { layers = made.layers ++ outer ∷ [] }

-- a converter whose keys are all left takes them and adds what it gives
abbrev pub with_gift : Collected → Option Gift → Collected
with_gift made None = made
with_gift made (Some (keys, given)) =
    if are_left made.left keys then with_given given (record made { left = left_without_all keys made.left }) else made

-- the walk through the converters, each of which gives this, from these keys on
abbrev pub collected : (Converter → Option Gift) → List Converter → List Key → Collected
collected gives converters keys =
    fold (λ made converter. with_gift made (gives converter)) (record { left = keys; form = None; extras = []; layers = [] }) converters

-- what an element becomes: a shape, and the layers around it, which are in the order of the converters
pub record Converted : Type 0 where
  pub form : Form ViewAttributes
  pub layers : List Layer

-- its one shape, with the extra attributes joined to the outermost element
abbrev pub converted_of : Collected → Option Converted
converted_of made =
    option_map (λ form. record { form = with_outer (λ attributes. fold with_extra attributes made.extras) form; layers = made.layers }) made.form

-- what an element becomes by all converters
abbrev pub converted : Conversion → Facts → Option Converted
converted conversion facts = converted_of (collected (gift conversion.objects facts) conversion.converters (all_keys facts.attributes))
