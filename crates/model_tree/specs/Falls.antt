-- A list of items counts as larger than what is in each of them.
use Rattle.std.specs.Prelude.{◌≡◌, ◌≤◌, max, List, [], ◌∷◌, ◌++◌}
use Rattle.std.proofs.Common.{arith, refl, ap}
use denote.Param.Weighed.{most}
use Rattle.model_tree.specs.declared.items.Node.{Node}
use Rattle.model_tree.specs.declared.items.Node.TheVariants.{Run, Element}
use Rattle.model_tree.specs.declared.items.Items.TheDeep.{deep-Node}
use Rattle.model_tree.specs.Nodes.{items_at, items_in}
use Rattle.item_definitions.specs.Item.{Item, items_of, item_depth, inner_depth, depth_of}

inner_depth-items_of : (items : List Item) → inner_depth (items_of items) ≡ depth_of items
inner_depth-items_of [] = refl
inner_depth-items_of (item ∷ items) = ap (max (item_depth item)) (inner_depth-items_of items)

depth-append : (front back : List Item) → depth_of (front ++ back) ≡ max (depth_of front) (depth_of back)
depth-append [] back = omega arith
depth-append (item ∷ front) back = omega (arith, depth-append front back)

node_larger : (node : Node) → deep-Node node ≤ depth_of (items_at node)
node_larger (Run text) = omega arith
node_larger (Element head children) = omega (arith, inner_depth-items_of children)

most_depth : (nodes : List Node) → most deep-Node nodes ≤ depth_of (items_in nodes)
most_depth [] = omega arith
most_depth (node ∷ nodes) = omega (arith, node_larger node, most_depth nodes, depth-append (items_at node) (items_in nodes))

-- nodes aren't deeper than the items that they stand for
pub list_larger : (nodes : List Node) → max (most deep-Node nodes) 0 ≤ depth_of (items_in nodes)
list_larger nodes = omega (arith, most_depth nodes)
