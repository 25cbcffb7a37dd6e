-- What the product's converters give elements.
use Rattle.std.specs.Prelude.{ℕ, List, [], ◌∷◌, ◌++◌, Bool, true, false, Option, Some, None, if◌then◌else◌, codes}
use Rattle.std.specs.Str.{bytes_eq}
use Rattle.ck_base.specs.declared.value.Value.{Value as AttributeValue}
use Rattle.ck_base.specs.declared.value.Value.TheVariants.{Whole, Truth, Text}
use Rattle.ck_base.specs.Entries.{value_of}
use Rattle.view_definitions.specs.Node.{ViewAttributes}
use Rattle.converter_definitions.specs.declared.facts.Facts.{Facts}
use Rattle.converter_definitions.specs.declared.facts.Key.{Key}
use Rattle.converter_definitions.specs.declared.facts.Key.TheVariants.{Insert, Attribute}
use Rattle.converter_definitions.specs.declared.kind.ShapeKind.TheVariants.{Container, Empty, Ui}
use Rattle.converter_definitions.specs.declared.part.Part.{Part}
use Rattle.converter_definitions.specs.declared.part.Part.TheVariants.{Shape, Extra}
use Rattle.converter_definitions.specs.Form.{Form, text, element, none, more}

-- the text that an attribute has as its value
abbrev pub text_in : Option AttributeValue → Option (List ℕ)
text_in None = None
text_in (Some (Whole number)) = None
text_in (Some (Truth truth)) = None
text_in (Some (Text scalars)) = Some scalars

-- whether an attribute is there and its value is `true`
abbrev pub is_true : Option AttributeValue → Bool
is_true None = false
is_true (Some (Whole number)) = false
is_true (Some (Truth truth)) = truth
is_true (Some (Text scalars)) = false

-- an element of this name, and what is made of it
abbrev pub of_elements : List ℕ → (Facts → Option (List Key × Part)) → Facts → Option (List Key × Part)
of_elements name made facts = if bytes_eq facts.name name then made facts else None

-- `mention` shows a mention of a user as `@` and the user: <span class="mention" data-user="USER"><b>@USER</b></span>
abbrev pub mention_form : List ℕ → Form ViewAttributes
mention_form user = element Container (codes "span") ((codes "class", codes "mention") ∷ (codes "data-user", user) ∷ [])
    (more (element Ui (codes "b") [] (more (text (64 ∷ user)) none)) none)

-- a mention with a user consumes its insertion and the user; one without is left to other converters
abbrev pub mention_of : Option (List ℕ) → Option (List Key × Part)
mention_of None = None
mention_of (Some user) = Some (Insert ∷ Attribute (codes "user") ∷ [], Shape (mention_form user))

-- what the converter gives each element: only one named `mention` is its own
abbrev pub mention : Facts → Option (List Key × Part)
mention = of_elements (codes "mention") (λ facts. mention_of (text_in (value_of (codes "user") facts.attributes)))

-- `checkbox` consumes an element's insertion, and the attribute `checked` where it has one
abbrev pub checkbox_keys : Option AttributeValue → List Key
checkbox_keys None = Insert ∷ []
checkbox_keys (Some value) = Insert ∷ Attribute (codes "checked") ∷ []

-- the attributes of the box, in the order of their names: `type`, and before it `checked` where it is checked
abbrev pub checkbox_attributes : Bool → ViewAttributes
checkbox_attributes false = (codes "type", codes "checkbox") ∷ []
checkbox_attributes true = (codes "checked", codes "checked") ∷ (codes "type", codes "checkbox") ∷ []

-- it shows a box that is checked or not: <input type="checkbox"/>, with checked="checked" where `checked` is true
abbrev pub checkbox_of : Option AttributeValue → Option (List Key × Part)
checkbox_of checked = Some (checkbox_keys checked, Shape (element Empty (codes "input") (checkbox_attributes (is_true checked)) none))

-- what the converter gives each element: only one named `checkbox` is its own
abbrev pub checkbox : Facts → Option (List Key × Part)
checkbox = of_elements (codes "checkbox") (λ facts. checkbox_of (value_of (codes "checked") facts.attributes))

-- `headingAnchor` gives the element of a heading with an anchor the attribute id="anchor-ANCHOR"
abbrev pub anchor_of : Option (List ℕ) → Option (List Key × Part)
anchor_of None = None
anchor_of (Some anchor) = Some (Attribute (codes "anchor") ∷ [], Extra ((codes "id", codes "anchor-" ++ anchor) ∷ []))

-- what the converter gives each element: only one named `heading` is its own
abbrev pub heading_anchor : Facts → Option (List Key × Part)
heading_anchor = of_elements (codes "heading") (λ facts. anchor_of (text_in (value_of (codes "anchor") facts.attributes)))
