use Rattle.std.proofs.Common.{◌≡◌, ◌≤◌, ◌+◌, ◌*◌, length, reverse}
use Rattle.view_definitions.specs.Node.{node_depth, depth_of}
use Rattle.view_definitions.specs.Row.{join}
use Rattle.view_wrap.specs.Layered.{wrapped}
use Rattle.view_wrap.proofs.layers.+wraps.Given as goal

-- what is made, joined to what the nodes still to come are, is what all are
abbrev pub invariant-wrap_list-loop-node : goal.invariant-wrap_list-loop-node
invariant-wrap_list-loop-node l =
    record {
      made : join l.made.nodes (wrapped l.layer (reverse l.nodes.nodes)) ≡ wrapped l.layer l.fn.nodes.nodes;
      depth : depth_of l.nodes.nodes ≤ depth_of l.fn.nodes.nodes;
    }

abbrev pub decreases-wrap_list-loop-node : goal.decreases-wrap_list-loop-node
decreases-wrap_list-loop-node l = length l.nodes.nodes

abbrev pub decreases-wrap_list : goal.decreases-wrap_list
decreases-wrap_list l = 3 * depth_of l.nodes.nodes + 2

abbrev pub decreases-wrap_node : goal.decreases-wrap_node
decreases-wrap_node l = 3 * node_depth l.node + 1

abbrev pub decreases-wrap_inside : goal.decreases-wrap_inside
decreases-wrap_inside l = 3 * node_depth l.node
