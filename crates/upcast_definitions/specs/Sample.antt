-- Views and rules for the worked examples: the items are those of the sample schema.
use Rattle.std.specs.Prelude.{ℕ, zero, suc, ℤ, pos, List, [], ◌∷◌, map, true, Some, None, codes}
use Rattle.ck_base.specs.declared.value.Value.{Value as AttributeValue}
use Rattle.ck_base.specs.declared.value.Value.TheVariants.{Whole, Truth, Text as TextValue}
use Rattle.item_definitions.specs.Item.{Item, Attributes, character, element, items_of}
use Rattle.view_definitions.specs.Node.{ViewAttributes}
use Rattle.schema_definitions.specs.Allowed.{Rules}
use Rattle.schema_definitions.specs.Sample.{sample}
use Rattle.upcast_definitions.specs.declared.rule.Source.{Source}
use Rattle.upcast_definitions.specs.declared.rule.Source.TheVariants.{Value, From}
use Rattle.upcast_definitions.specs.declared.rule.UpcastRule.{UpcastRule}
use Rattle.upcast_definitions.specs.declared.rule.UpcastRule.TheVariants.{Element, Key, Attribute}
use Rattle.upcast_definitions.specs.Form.{Form, text, element as view_element, forms_of}
use Rattle.upcast_definitions.specs.Up.{up}

-- an element of the view becomes an element of the model
abbrev pub becomes : List ℕ → ViewAttributes → List ℕ → List (List ℕ × Source) → UpcastRule
becomes view with name set = Element view with name set (pos 0)

-- an element of the view sets a key on what is in it
abbrev pub sets : List ℕ → List ℕ → Source → UpcastRule
sets view key value = Key view [] key value (pos 0)

-- an attribute of the view element with this name goes to the element that is made
abbrev pub hands_on : List ℕ → List ℕ → List ℕ → UpcastRule
hands_on attribute view key = Attribute attribute (Some view) key (pos 0)

-- rules for blocks, objects, keys and one attribute
abbrev pub sample_rules : List UpcastRule
sample_rules = becomes (codes "p") [] (codes "paragraph") []
    ∷ becomes (codes "h1") [] (codes "heading") ((codes "level", Value (Whole (pos 1))) ∷ [])
    ∷ becomes (codes "h2") [] (codes "heading") ((codes "level", Value (Whole (pos 2))) ∷ [])
    ∷ becomes (codes "q") [] (codes "quote") []
    ∷ becomes (codes "li") [] (codes "listItem") []
    ∷ becomes (codes "img") [] (codes "image") ((codes "source", From (codes "src")) ∷ [])
    ∷ becomes (codes "m") ((codes "class", codes "user") ∷ []) (codes "mention") ((codes "user", From (codes "id")) ∷ [])
    ∷ sets (codes "b") (codes "bold") (Value (Truth true))
    ∷ sets (codes "i") (codes "italic") (Value (Truth true))
    ∷ sets (codes "a") (codes "link") (From (codes "href"))
    ∷ hands_on (codes "id") (codes "h2") (codes "anchor")
    ∷ []

-- an element of the view without attributes
abbrev pub tag : List ℕ → List Form → Form
tag name children = view_element name [] (forms_of children)

-- an image of the view with its source
abbrev pub img : List ℕ → Form
img source = view_element (codes "img") ((codes "src", source) ∷ []) (forms_of [])

-- a link of the view
abbrev pub link_to : List ℕ → List Form → Form
link_to target children = view_element (codes "a") ((codes "href", target) ∷ []) (forms_of children)

-- so many list items of the view, one in another, round some nodes
abbrev pub lists_in_lists : ℕ → List Form → List Form
lists_in_lists zero nodes = nodes
lists_in_lists (suc depth) nodes = tag (codes "li") (lists_in_lists depth nodes) ∷ []

-- characters with these attributes
abbrev pub letters : Attributes → List ℕ → List Item
letters attributes scalars = map (λ scalar. character scalar attributes) scalars

-- an element of the model with these attributes and items
abbrev pub with_items : List ℕ → Attributes → List Item → Item
with_items name attributes items = element 0 name attributes (items_of items)

-- a paragraph of the model
abbrev pub par : List Item → Item
par items = with_items (codes "paragraph") [] items

-- a paragraph with a text without attributes
abbrev pub text_par : List ℕ → Item
text_par scalars = par (letters [] scalars)

-- an image of the model
abbrev pub image : List ℕ → Item
image source = with_items (codes "image") ((codes "source", TextValue source) ∷ []) []

-- bold
abbrev pub bold : Attributes
bold = (codes "bold", Truth true) ∷ []

-- a view read by the sample's rules
abbrev pub read : List Form → List Item
read view = up sample sample_rules view

-- a view read by these rules and the sample schema
abbrev pub read_by : List UpcastRule → List Form → List Item
read_by rules view = up sample rules view

-- a mention of the view
abbrev pub user : Form
user = view_element (codes "m") ((codes "class", codes "user") ∷ (codes "id", codes "u") ∷ []) (forms_of [])

-- an element of the view with this class and a text in it
abbrev pub classed : List ℕ → List ℕ → List ℕ → Form
classed name class content = view_element name ((codes "class", class) ∷ []) (forms_of (text content ∷ []))

-- a mention of the model
abbrev pub mention : Attributes → Item
mention attributes = with_items (codes "mention") attributes []

-- the user of a mention
abbrev pub of_user : List (List ℕ × AttributeValue)
of_user = (codes "user", TextValue (codes "u")) ∷ []

-- three list items, one in another, with a paragraph in the innermost
abbrev pub three_lists : List ℕ → Item
three_lists scalars =
    with_items (codes "listItem") [] (with_items (codes "listItem") [] (with_items (codes "listItem") [] (text_par scalars ∷ []) ∷ []) ∷ [])
