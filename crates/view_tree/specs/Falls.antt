-- A node counts as larger than its list of children.
use Rattle.std.specs.Prelude.{◌≡◌, ◌≤◌, ◌*◌, max, List, [], ◌∷◌}
use Rattle.std.proofs.Common.{arith, refl, ap}
use Rattle.view_tree.specs.declared.node.Node.{Node}
use Rattle.view_tree.specs.declared.node.Node.TheVariants.{Text, Element}
use Rattle.view_tree.specs.declared.node.Children.TheDeep.{deep-Node}
use Rattle.view_tree.specs.Parts.{node_view}
use Rattle.view_definitions.specs.Node.{ViewNode, nodes_of, node_depth, inner_depth, depth_of}

inner_depth-nodes_of : (nodes : List ViewNode) → inner_depth (nodes_of nodes) ≡ depth_of nodes
inner_depth-nodes_of [] = refl
inner_depth-nodes_of (node ∷ nodes) = ap (max (node_depth node)) (inner_depth-nodes_of nodes)

-- what is in the list of children falls, as a function goes from a node into the list
pub node_larger : (node : Node) → max (deep-Node node) 0 ≤ 2 * node_depth (node_view node)
node_larger (Text scalars alloc) = omega arith
node_larger (Element head children) = omega (arith, inner_depth-nodes_of children.nodes)
