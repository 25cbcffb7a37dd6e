use Rattle.std.specs.Prelude.{◌+◌, ◌*◌}
use Rattle.converter_definitions.specs.Form.{forms_of}
use Rattle.converter_definitions.specs.Parts.{shape_of, shapes_of}
use Rattle.converter_definitions.specs.Shape.{form_count, inner_count}
use Rattle.converter_read.proofs.indexed.+counting.Given as goal

abbrev pub decreases-node_has_index : goal.decreases-node_has_index
decreases-node_has_index l = 2 * form_count (shape_of l.node.now)

abbrev pub decreases-nodes_have_index : goal.decreases-nodes_have_index
decreases-nodes_have_index l = 2 * inner_count (forms_of (shapes_of l.nodes.now)) + 1
