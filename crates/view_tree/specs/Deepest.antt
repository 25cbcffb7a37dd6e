-- A list of nodes counts as larger than each of them.
use Rattle.std.specs.Prelude.{◌≤◌, ◌+◌, ◌*◌, max, List, [], ◌∷◌}
use Rattle.std.proofs.Common.{arith}
use denote.Param.Weighed.{most}
use Rattle.view_definitions.specs.Node.{ViewNode, node_depth, depth_of}

-- the deepest node of a list is no deeper than the list
pub most_depth : (nodes : List ViewNode) → most (λ node. 2 * node_depth node + 1) nodes ≤ 2 * depth_of nodes + 1
most_depth [] = omega arith
most_depth (node ∷ nodes) = omega (arith, most_depth nodes)

-- so what is in a list falls, as a function goes from the list into a node of it
pub list_larger : (nodes : List ViewNode) → max (most (λ node. 2 * node_depth node + 1) nodes) 0 ≤ 2 * depth_of nodes + 1
list_larger nodes = omega (arith, most_depth nodes)
