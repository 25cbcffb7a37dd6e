-- The node that the parts of one are.
use Rattle.view_tree.specs.declared.node.Node.{Node}
use Rattle.view_tree.specs.declared.node.Node.TheVariants.{Text, Element}
use Rattle.view_definitions.specs.Node.{ViewNode, text, element, nodes_of}

-- the node that these parts are
abbrev pub node_view : Node → ViewNode
node_view (Text scalars alloc) = text scalars
node_view (Element head children) = element head (nodes_of children.nodes)
