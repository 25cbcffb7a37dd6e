use Rattle.std.proofs.Common.{◌+◌, ◌*◌}
use Rattle.view_definitions.specs.Node.{node_depth, depth_of}
use Rattle.view_wrap.proofs.breaks.+breaks.Given as goal

abbrev pub decreases-break_list : goal.decreases-break_list
decreases-break_list l = 3 * depth_of l.nodes.now.nodes + 2

abbrev pub decreases-break_node : goal.decreases-break_node
decreases-break_node l = 3 * node_depth l.node + 1

abbrev pub decreases-break_layer : goal.decreases-break_layer
decreases-break_layer l = 3 * node_depth l.node
