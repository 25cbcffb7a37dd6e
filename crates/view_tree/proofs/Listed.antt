-- A list of nodes that became children is the list of these.
use Rattle.std.proofs.Common.{◌≡◌, List}
use Rattle.view_definitions.specs.Node.{ViewNode, list_of, nodes_of}
use Rattle.view_definitions.specs.NodeCode.{list_of-nodes_of}

pub listed : (nodes : List ViewNode) → list_of (nodes_of nodes) ≡ nodes
listed nodes = list_of-nodes_of nodes
