-- The layers around characters and around objects in the text.
use Rattle.std.specs.Prelude.{◌≡◌, ◌⊎◌, ℕ, List, [], ◌∷◌, ◌++◌, Bool, true, false, ◌&&◌, ◌==◌, Option, Some, None, is_none, unwrap_or, fold, if◌then◌else◌}
use Rattle.std.specs.List.{list_all, filter_map}
use Rattle.std.specs.Option.{option_map_or, option_or}
use Rattle.std.specs.Ordering.{int_cmp, eq_by_cmp}
use Rattle.std.specs.Str.{bytes_eq}
use Rattle.ck_base.specs.Entries.{value_of, with_value}
use Rattle.item_definitions.specs.Item.{Attributes}
use Rattle.view_definitions.specs.Node.{ViewAttributes}
use Rattle.view_definitions.specs.Layer.{Layer}
use Rattle.view_definitions.specs.Change.{with_layer}
use Rattle.converter_definitions.specs.declared.facts.Key.TheVariants.{Attribute}
use Rattle.converter_definitions.specs.declared.stock.StockConverter.{StockConverter}
use Rattle.converter_definitions.specs.declared.stock.StockConverter.TheVariants.{ElementToElement, ElementToStructure, AttributeToElement}
use Rattle.converter_definitions.specs.declared.stock.StockConverter.TheVariants.{AttributeToAttribute, MarkerToHighlight, MarkerToElement}
use Rattle.converter_definitions.specs.declared.stock.HighlightView.{HighlightView}
use Rattle.converter_definitions.specs.declared.stock.Leaf.{Leaf}
use Rattle.converter_definitions.specs.Facts.{attribute_keys}
use Rattle.converter_definitions.specs.Gives.{Conversion, Converter, stock, boxed, Gift, gift_if, layer, has_value, layer_from, collected}

-- what a converter of the settings gives a character: the attribute element of an attribute
abbrev pub stock_character_gift : Attributes → StockConverter → Option Gift
stock_character_gift attributes (ElementToElement model wanted parent view) = None
stock_character_gift attributes (ElementToStructure model wanted parent view) = None
stock_character_gift attributes (AttributeToElement model value view) =
    gift_if (has_value attributes model value) (Attribute model ∷ [], layer (layer_from attributes view))
stock_character_gift attributes (AttributeToAttribute element model value view) = None
stock_character_gift attributes (MarkerToHighlight marker view) = None
stock_character_gift attributes (MarkerToElement marker view) = None

-- what a converter gives a character
abbrev pub character_gift : Attributes → Converter → Option Gift
character_gift attributes (stock converter) = stock_character_gift attributes converter
character_gift attributes (boxed gives) = None

-- the layers that the attributes of a character give, in the order of the converters
abbrev pub attribute_layers : List Converter → Attributes → List Layer
attribute_layers converters attributes = (collected (character_gift attributes) converters (attribute_keys attributes)).layers

-- a converter for a marker is one for each marker whose name goes on behind a colon too. (After marker groups of CKEditor 5.)
abbrev pub goes_on : List ℕ → List ℕ → Bool
goes_on [] [] = true
goes_on [] (byte ∷ name) = byte == 58
goes_on (own ∷ group) [] = false
goes_on (own ∷ group) (byte ∷ name) = own == byte && goes_on group name

-- the name is the group's own, or begins with the group and a colon
abbrev pub IsOfGroup : List ℕ → List ℕ → Type 0
IsOfGroup group name = (name ≡ group) ⊎ ((rest : List ℕ) × (name ≡ group ++ (58 ∷ rest)))

-- the layer of a highlight; without an id of its own it has the marker's name as its id
abbrev pub highlight_layer : List ℕ → HighlightView → Layer
highlight_layer marker view =
    record { name = view.name; attrs = view.attributes; priority = view.priority; id = Some (unwrap_or view.id marker) }

-- what a converter makes of a marker: a highlight, or a leaf
abbrev pub highlight_by : List ℕ → Converter → Option Layer
highlight_by marker (stock (ElementToElement model attributes parent view)) = None
highlight_by marker (stock (ElementToStructure model attributes parent view)) = None
highlight_by marker (stock (AttributeToElement model value view)) = None
highlight_by marker (stock (AttributeToAttribute element model value view)) = None
highlight_by marker (stock (MarkerToHighlight group view)) = if goes_on group marker then Some (highlight_layer marker view) else None
highlight_by marker (stock (MarkerToElement group view)) = None
highlight_by marker (boxed gives) = None

-- the leaf that a converter makes of a marker
abbrev pub leaf_by : List ℕ → Converter → Option Leaf
leaf_by marker (stock (ElementToElement model attributes parent view)) = None
leaf_by marker (stock (ElementToStructure model attributes parent view)) = None
leaf_by marker (stock (AttributeToElement model value view)) = None
leaf_by marker (stock (AttributeToAttribute element model value view)) = None
leaf_by marker (stock (MarkerToHighlight group view)) = None
leaf_by marker (stock (MarkerToElement group view)) = if goes_on group marker then Some view else None
leaf_by marker (boxed gives) = None

-- by the first converter that makes one
abbrev pub highlight_of : List Converter → List ℕ → Option Layer
highlight_of [] marker = None
highlight_of (converter ∷ converters) marker = option_or (highlight_by marker converter) (highlight_of converters marker)

-- the leaf of a marker
abbrev pub leaf_of : List Converter → List ℕ → Option Leaf
leaf_of [] marker = None
leaf_of (converter ∷ converters) marker = option_or (leaf_by marker converter) (leaf_of converters marker)

-- layers in their order, equal ones once
abbrev pub in_order : List Layer → List Layer
in_order layers = fold (λ made next. with_layer next made) [] layers

-- no key of a layer has another text in the other one
abbrev pub agree : ViewAttributes → ViewAttributes → Bool
agree attributes others = list_all (λ entry. option_map_or (bytes_eq entry.1) (value_of entry.0 others) true) attributes

-- whether two layers may be one: of one name and priority, without ids, and in no key different
abbrev pub may_join : Layer → Layer → Bool
may_join other next =
    is_none other.id && is_none next.id && bytes_eq other.name next.name && eq_by_cmp int_cmp other.priority next.priority && agree next.attrs other.attrs

-- the layer with the keys of both
abbrev pub with_keys : Layer → Layer → Layer
with_keys other next = record other { attrs = fold (λ made entry. with_value entry.0 entry.1 made) other.attrs next.attrs }

-- a layer more: it joins the first one that it may, or stands behind all
abbrev pub join_into : Layer → List Layer → List Layer
join_into next [] = next ∷ []
join_into next (other ∷ layers) = if may_join other next then with_keys other next ∷ layers else other ∷ join_into next layers

-- layers joined one after the other
abbrev pub joined_layers : List Layer → List Layer
joined_layers layers = fold (λ made next. join_into next made) [] layers

-- the layers that raw ones make: in their order, equal ones once; where layers are joined, then joined one after the other, and put in order
-- again
abbrev pub made_layers : Bool → List Layer → List Layer
made_layers false raw = in_order raw
made_layers true raw = in_order (joined_layers (in_order raw))

-- the highlights of these markers
abbrev pub highlights : List Converter → List (List ℕ) → List Layer
highlights converters covering = filter_map (highlight_of converters) covering

-- the layers of a character with these attributes that these markers cover
abbrev pub character_layers : Conversion → Attributes → List (List ℕ) → List Layer
character_layers conversion attributes covering =
    made_layers conversion.joined (attribute_layers conversion.converters attributes ++ highlights conversion.converters covering)

-- the layers of an object in the text, whose own are these, that these markers cover
abbrev pub object_layers : Conversion → List Layer → List (List ℕ) → List Layer
object_layers conversion own covering = made_layers conversion.joined (own ++ highlights conversion.converters covering)
