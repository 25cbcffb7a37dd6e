use Rattle.std.proofs.Common.{◌+◌, ◌*◌}
use Rattle.view_definitions.specs.Node.{node_depth, depth_of}
use Rattle.pos_mapper.proofs.seeking.+items.Given as goal

abbrev pub decreases-item_at : goal.decreases-item_at
decreases-item_at l = 2 * depth_of l.nodes.now + 1

abbrev pub decreases-item_inside : goal.decreases-item_inside
decreases-item_inside l = 2 * node_depth l.node.now
