use Rattle.std.specs.Prelude.{◌+◌, ◌*◌}
use Rattle.converter_definitions.specs.Form.{forms_of}
use Rattle.converter_definitions.specs.Parts.{shape_of, shapes_of}
use Rattle.converter_definitions.specs.Shape.{form_count, inner_count}
use Rattle.conv_rules.proofs.filling.+nodes.Given as goal

abbrev pub decreases-filled_node : goal.decreases-filled_node
decreases-filled_node l = 2 * form_count (shape_of l.node.now)

abbrev pub decreases-push_filled : goal.decreases-push_filled
decreases-push_filled l = 2 * inner_count (forms_of (shapes_of l.nodes.now)) + 1
