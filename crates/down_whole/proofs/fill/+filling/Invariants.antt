use Rattle.std.specs.Prelude.{◌+◌, ◌*◌}
use Rattle.converter_definitions.specs.Form.{forms_of}
use Rattle.converter_definitions.specs.Parts.{shape_of, shapes_of}
use Rattle.converter_definitions.specs.Shape.{form_count, inner_count}
use Rattle.down_whole.proofs.fill.+filling.Given as goal

abbrev pub decreases-fill_node : goal.decreases-fill_node
decreases-fill_node l = 3 * form_count (shape_of l.node.now)

abbrev pub decreases-fill_nodes : goal.decreases-fill_nodes
decreases-fill_nodes l = 3 * inner_count (forms_of (shapes_of l.nodes.now)) + 1

abbrev pub decreases-fill_element : goal.decreases-fill_element
decreases-fill_element l = 3 * inner_count (forms_of (shapes_of l.children.now)) + 2
