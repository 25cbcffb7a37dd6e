use Rattle.std.proofs.Common.{◌+◌, ◌*◌, length}
use Rattle.pos_mapper.proofs.reading.+reads.Given as goal

abbrev pub decreases-read_nodes : goal.decreases-read_nodes
decreases-read_nodes l = 8 * length l.path.now + 0

abbrev pub decreases-read_content : goal.decreases-read_content
decreases-read_content l = 8 * length l.path.now + 0

abbrev pub decreases-read_step : goal.decreases-read_step
decreases-read_step l = 8 * length l.path.now + 0

abbrev pub decreases-read_slot : goal.decreases-read_slot
decreases-read_slot l = 8 * length l.path.now + 1

abbrev pub decreases-read_inside : goal.decreases-read_inside
decreases-read_inside l = 8 * length l.path.now + 2

abbrev pub decreases-read_element : goal.decreases-read_element
decreases-read_element l = 8 * length l.path.now + 3

abbrev pub decreases-read_node : goal.decreases-read_node
decreases-read_node l = 8 * length l.path.now + 4

abbrev pub decreases-read_at : goal.decreases-read_at
decreases-read_at l = 8 * length l.path.now + 5
