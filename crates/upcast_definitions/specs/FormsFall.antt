-- A list of nodes counts as larger than what is in each of them.
use Rattle.std.specs.Prelude.{◌≤◌, max, List, [], ◌∷◌}
use Rattle.std.proofs.Common.{arith}
use denote.Param.Weighed.{most}
use Rattle.upcast_definitions.specs.declared.view.ViewItem.{ViewItem}
use Rattle.upcast_definitions.specs.declared.view.ViewItem.TheVariants.{Text, Element}
use Rattle.upcast_definitions.specs.declared.view.ViewList.TheDeep.{deep-ViewItem}
use Rattle.upcast_definitions.specs.Forms.{form_of, view_of}
use Rattle.upcast_definitions.specs.Form.{form_depth, depth_of}
use Rattle.upcast_definitions.specs.Depths.{inner_depth-forms_of}

form_larger : (item : ViewItem) → deep-ViewItem item ≤ form_depth (form_of item)
form_larger (Text scalars) = omega arith
form_larger (Element name attributes children) = omega (arith, inner_depth-forms_of children)

most_forms : (items : List ViewItem) → most deep-ViewItem items ≤ depth_of (view_of items)
most_forms [] = omega arith
most_forms (item ∷ items) = omega (arith, form_larger item, most_forms items)

-- the nodes of a list are no deeper than the list, as what holds their type counts them
pub forms_larger : (items : List ViewItem) → max (most deep-ViewItem items) 0 ≤ depth_of (view_of items)
forms_larger items = omega (arith, most_forms items)
