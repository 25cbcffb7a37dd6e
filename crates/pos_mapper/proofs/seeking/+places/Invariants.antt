use Rattle.std.proofs.Common.{◌+◌, ◌*◌}
use Rattle.view_definitions.specs.Node.{node_depth, depth_of}
use Rattle.pos_mapper.proofs.seeking.+places.Given as goal

abbrev pub decreases-push_place : goal.decreases-push_place
decreases-push_place l = 2 * depth_of l.nodes.now + 1

abbrev pub decreases-push_inside : goal.decreases-push_inside
decreases-push_inside l = 2 * node_depth l.node.now
