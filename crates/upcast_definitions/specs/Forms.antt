-- The trees that the nodes of the program are.
use Rattle.std.specs.Prelude.{List, map}
use Rattle.upcast_definitions.specs.declared.view.ViewItem.{ViewItem}
use Rattle.upcast_definitions.specs.declared.view.ViewItem.TheVariants.{Text, Element}
use Rattle.upcast_definitions.specs.Form.{Form, text, element, forms_of}

-- the node of a view that it is
abbrev pub form_of : ViewItem → Form
form_of (Text scalars) = text scalars
form_of (Element name attributes children) = element name attributes (forms_of children)

-- the nodes that they are
abbrev pub view_of : List ViewItem → List Form
view_of items = map form_of items
