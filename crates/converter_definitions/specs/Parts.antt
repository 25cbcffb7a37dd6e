-- The trees that the nodes of the program are.
use Rattle.std.specs.Prelude.{List, map}
use Rattle.converter_definitions.specs.declared.shape.ShapeNode.{ShapeNode}
use Rattle.converter_definitions.specs.declared.shape.ShapeNode.TheVariants.{Slot, Text, Element}
use Rattle.converter_definitions.specs.Form.{Form, slot, text, element, forms_of}

-- the node of a shape that it is
abbrev pub shape_of : {A : Type 0} → ShapeNode A → Form A
shape_of Slot = slot
shape_of (Text scalars) = text scalars
shape_of (Element kind name attributes children) = element kind name attributes (forms_of children)

-- the nodes that they are
abbrev pub shapes_of : {A : Type 0} → List (ShapeNode A) → List (Form A)
shapes_of nodes = map shape_of nodes
