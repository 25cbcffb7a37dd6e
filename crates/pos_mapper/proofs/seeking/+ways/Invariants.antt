use Rattle.std.proofs.Common.{◌+◌, ◌*◌, length}
use Rattle.pos_mapper.proofs.seeking.+ways.Given as goal

abbrev pub decreases-inside : goal.decreases-inside
decreases-inside l = 2 * length l.way.now + 1

abbrev pub decreases-inside_step : goal.decreases-inside_step
decreases-inside_step l = 2 * length l.way.now + 2
