use Rattle.std.specs.Prelude.{◌+◌, ◌*◌}
use Rattle.converter_definitions.specs.Form.{forms_of}
use Rattle.converter_definitions.specs.Parts.{shape_of, shapes_of}
use Rattle.converter_definitions.specs.Shape.{form_count, inner_count}
use Rattle.down_whole.proofs.maker.+ways.Given as goal

abbrev pub decreases-way_among : goal.decreases-way_among
decreases-way_among l = 2 * inner_count (forms_of (shapes_of l.nodes.now)) + 1

abbrev pub decreases-way_to : goal.decreases-way_to
decreases-way_to l = 2 * form_count (shape_of l.node.now)
