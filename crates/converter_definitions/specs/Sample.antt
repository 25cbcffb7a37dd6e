-- Converters for the worked examples: those of an article with headings, lists, images, check boxes, bold, italic and links, comments and
-- bookmarks.
use Rattle.std.specs.Prelude.{ℕ, pos, List, [], ◌∷◌, Bool, true, false, Option, Some, None, codes}
use Rattle.ck_base.specs.declared.value.Value.TheVariants.{Whole, Truth}
use Rattle.item_definitions.specs.Item.{Attributes}
use Rattle.view_definitions.specs.Node.{ViewAttributes}
use Rattle.view_definitions.specs.Layer.{Layer}
use Rattle.converter_definitions.specs.declared.kind.ShapeKind.{ShapeKind}
use Rattle.converter_definitions.specs.declared.kind.ShapeKind.TheVariants as kind
use Rattle.converter_definitions.specs.declared.facts.Facts.{Facts}
use Rattle.converter_definitions.specs.declared.facts.Key.{Key}
use Rattle.converter_definitions.specs.declared.facts.Key.TheVariants.{Insert}
use Rattle.converter_definitions.specs.declared.part.Part.{Part}
use Rattle.converter_definitions.specs.declared.part.Part.TheVariants.{Shape}
use Rattle.converter_definitions.specs.declared.pattern.Pattern.TheVariants.{Text, From, Index}
use Rattle.converter_definitions.specs.declared.stock.StockConverter.TheVariants.{ElementToElement, ElementToStructure, AttributeToElement}
use Rattle.converter_definitions.specs.declared.stock.StockConverter.TheVariants.{AttributeToAttribute, MarkerToHighlight, MarkerToElement}
use Rattle.converter_definitions.specs.declared.stock.ElementView.{ElementView}
use Rattle.converter_definitions.specs.declared.stock.LayerView.{LayerView}
use Rattle.converter_definitions.specs.Form.{Form, Forms, element, none, more}
use Rattle.converter_definitions.specs.Pattern.{Patterns}
use Rattle.converter_definitions.specs.Gives.{Conversion, Converter, stock}

-- an element of the view that its content is in
abbrev pub view_of : List ℕ → Patterns → ElementView
view_of name attributes = record { name = name; is_empty = false; attributes = attributes }

-- a converter of each element of a name
abbrev pub plainly : List ℕ → List ℕ → Converter
plainly model name = stock (ElementToElement model [] None (view_of name []))

-- the attribute `class` with this text
abbrev pub class : List ℕ → ViewAttributes
class name = (codes "class", name) ∷ []

-- a layer of priority 10 without an id and without attributes
abbrev pub layer_view : List ℕ → Patterns → LayerView
layer_view name attributes = record { name = name; attributes = attributes; priority = pos 10; id = None }

-- an image in a figure
abbrev pub figure : Form Patterns
figure = element kind.Container (codes "figure") ((codes "class", Text (codes "image")) ∷ [])
    (more (element kind.Empty (codes "img") ((codes "src", From (codes "source")) ∷ []) none) none)

-- a check box, as a product's converter gives it
abbrev pub check_box : Facts → Option (List Key × Part)
check_box facts = Some (Insert ∷ [], Shape (element kind.Empty (codes "input") ((codes "type", codes "checkbox") ∷ []) none))

-- the converters, those of a higher priority first
abbrev pub sample_converters : List Converter
sample_converters =
    stock (ElementToElement (codes "paragraph") [] (Some (codes "listItem")) (view_of (codes "span") ((codes "class", Text (codes "item")) ∷ [])))
    ∷ stock (ElementToElement (codes "heading") ((codes "level", Whole (pos 1)) ∷ []) None (view_of (codes "h1") []))
    ∷ plainly (codes "paragraph") (codes "p")
    ∷ plainly (codes "heading") (codes "h2")
    ∷ plainly (codes "quote") (codes "blockquote")
    ∷ stock (ElementToElement (codes "listItem") [] None (view_of (codes "li") ((codes "data-n", Index 1) ∷ [])))
    ∷ stock (ElementToStructure (codes "image") [] None figure)
    ∷ stock (ElementToElement (codes "checkbox") [] None (record { name = codes "input"; is_empty = true; attributes = [] }))
    ∷ stock (AttributeToAttribute (Some (codes "heading")) (codes "anchor") None (record { key = codes "id"; value = None }))
    ∷ stock (AttributeToElement (codes "bold") (Some (Truth true)) (layer_view (codes "strong") []))
    ∷ stock (AttributeToElement (codes "italic") None (layer_view (codes "i") []))
    ∷ stock (AttributeToElement (codes "link") None
    (record { name = codes "a"; attributes = (codes "href", From (codes "link")) ∷ []; priority = pos 5; id = None }))
    ∷ stock (MarkerToHighlight (codes "comment") (record { name = codes "span"; attributes = class (codes "comment"); priority = pos 10; id = None }))
    ∷ stock (MarkerToElement (codes "bookmark") (record { name = codes "a"; attrs = class (codes "bookmark") }))
    ∷ []

-- what the examples convert by
abbrev pub sample : Conversion
sample = record { converters = sample_converters; objects = codes "checkbox" ∷ []; joined = false; indexed = codes "listItem" ∷ [] }

-- what converters look at, of an element of this name with these attributes and such a parent
abbrev pub facts_of : List ℕ → Attributes → List ℕ → Option ℕ → Facts
facts_of name attributes parent index = record { name = name; attributes = attributes; parent = parent; index = index }

-- two attributes as spans: bold with this attribute of the view, and italic with that one
abbrev pub spans : Bool → List ℕ × List ℕ → List ℕ × List ℕ → Conversion
spans joined first second = record {
  converters = stock (AttributeToElement (codes "bold") None (layer_view (codes "span") ((first.0, Text first.1) ∷ [])))
      ∷ stock (AttributeToElement (codes "italic") None (layer_view (codes "span") ((second.0, Text second.1) ∷ []))) ∷ [];
  objects = [];
  joined = joined;
  indexed = [];
}

-- a span around characters
abbrev pub span : ViewAttributes → Layer
span attributes = record { name = codes "span"; attrs = attributes; priority = pos 10; id = None }

-- the attributes `bold` and `italic`
abbrev pub on : Attributes
on = (codes "bold", Truth true) ∷ (codes "italic", Truth true) ∷ []

-- an element of a shape without attributes
abbrev pub plain : ShapeKind → List ℕ → Forms ViewAttributes → Form ViewAttributes
plain kind name children = element kind name [] children
