use Rattle.std.proofs.Common.{◌+◌, ◌*◌}
use Rattle.view_definitions.specs.Node.{node_depth, depth_of}
use Rattle.pos_mapper.proofs.seeking.+gaps.Given as goal

abbrev pub decreases-push_gap : goal.decreases-push_gap
decreases-push_gap l = 2 * depth_of l.nodes.now + 1

abbrev pub decreases-push_gap_inside : goal.decreases-push_gap_inside
decreases-push_gap_inside l = 2 * node_depth l.node.now
