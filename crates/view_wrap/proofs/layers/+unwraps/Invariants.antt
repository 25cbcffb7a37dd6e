use Rattle.std.proofs.Common.{◌≡◌, ◌≤◌, ◌+◌, ◌*◌, length, reverse}
use Rattle.view_definitions.specs.Node.{node_depth, depth_of}
use Rattle.view_definitions.specs.Row.{join}
use Rattle.view_wrap.specs.Layered.{unwrapped}
use Rattle.view_wrap.proofs.layers.+unwraps.Given as goal

-- what is made, joined to what the nodes still to come are, is what all are
abbrev pub invariant-unwrap_list-loop-node : goal.invariant-unwrap_list-loop-node
invariant-unwrap_list-loop-node l =
    record {
      made : join l.made.nodes (unwrapped l.layer (reverse l.nodes.nodes)) ≡ unwrapped l.layer l.fn.nodes.nodes;
      depth : depth_of l.nodes.nodes ≤ depth_of l.fn.nodes.nodes;
    }

abbrev pub decreases-unwrap_list-loop-node : goal.decreases-unwrap_list-loop-node
decreases-unwrap_list-loop-node l = length l.nodes.nodes

abbrev pub decreases-unwrap_list : goal.decreases-unwrap_list
decreases-unwrap_list l = 3 * depth_of l.nodes.nodes + 2

abbrev pub decreases-unwrap_node : goal.decreases-unwrap_node
decreases-unwrap_node l = 3 * node_depth l.node + 1

abbrev pub decreases-unwrap_layer : goal.decreases-unwrap_layer
decreases-unwrap_layer l = 3 * node_depth l.node
