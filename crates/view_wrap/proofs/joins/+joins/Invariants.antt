use Rattle.std.proofs.Common.{◌+◌, ◌*◌}
use Rattle.view_definitions.specs.Node.{node_depth, depth_of}
use Rattle.view_wrap.proofs.joins.+joins.Given as goal

abbrev pub decreases-join_lists : goal.decreases-join_lists
decreases-join_lists l = 3 * depth_of l.left.now.nodes + 2

abbrev pub decreases-meet : goal.decreases-meet
decreases-meet l = 3 * node_depth l.last + 1

abbrev pub decreases-joined_layers : goal.decreases-joined_layers
decreases-joined_layers l = 3 * node_depth l.last
