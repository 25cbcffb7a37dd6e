-- A list of nodes counts as larger than what is in each of them.
use Rattle.std.specs.Prelude.{◌≤◌, max, List, [], ◌∷◌}
use Rattle.std.proofs.Common.{arith}
use denote.Param.Weighed.{most}
use Rattle.converter_definitions.specs.declared.shape.ShapeNode.{ShapeNode}
use Rattle.converter_definitions.specs.declared.shape.ShapeNode.TheVariants.{Slot, Text, Element}
use Rattle.converter_definitions.specs.declared.shape.ShapeNodes.TheDeep.{deep-ShapeNode}
use Rattle.converter_definitions.specs.Parts.{shape_of, shapes_of}
use Rattle.converter_definitions.specs.Form.{form_depth, depth_of}
use Rattle.converter_definitions.specs.Depths.{inner_depth-forms_of}

shape_larger : {A : Type 0} → (node : ShapeNode A) → deep-ShapeNode A node ≤ form_depth (shape_of node)
shape_larger Slot = omega arith
shape_larger (Text scalars) = omega arith
shape_larger (Element kind name attributes children) = omega (arith, inner_depth-forms_of children)

most_shapes : {A : Type 0} → (nodes : List (ShapeNode A)) → most (deep-ShapeNode A) nodes ≤ depth_of (shapes_of nodes)
most_shapes [] = omega arith
most_shapes (node ∷ nodes) = omega (arith, shape_larger node, most_shapes nodes)

-- the nodes of a list are no deeper than the list, as what holds their type counts them
pub shapes_larger : {A : Type 0} → (nodes : List (ShapeNode A)) → max (most (deep-ShapeNode A) nodes) 0 ≤ depth_of (shapes_of nodes)
shapes_larger nodes = omega (arith, most_shapes nodes)
