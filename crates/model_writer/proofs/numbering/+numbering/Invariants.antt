use Rattle.std.proofs.Common.{◌+◌, ◌*◌}
use Rattle.item_definitions.specs.Item.{count_of}
use Rattle.model_writer.proofs.numbering.+numbering.Given as goal

abbrev pub decreases-numbered : goal.decreases-numbered
decreases-numbered l = 3 * count_of l.items.now + 1

abbrev pub decreases-numbered_halves : goal.decreases-numbered_halves
decreases-numbered_halves l = 3 * count_of l.items.now

abbrev pub decreases-numbered_element : goal.decreases-numbered_element
decreases-numbered_element l = 3 * count_of l.children.now + 2
