use Rattle.std.specs.Prelude.{◌+◌, ◌*◌}
use Rattle.converter_definitions.specs.Form.{forms_of}
use Rattle.converter_definitions.specs.Parts.{shape_of, shapes_of}
use Rattle.converter_definitions.specs.Shape.{form_count, inner_count}
use Rattle.converter_definitions.proofs.fitting.+measuring.Given as goal

abbrev pub decreases-extent_of : goal.decreases-extent_of
decreases-extent_of g l = 2 * form_count (shape_of l.node.now)

abbrev pub decreases-extent_among : goal.decreases-extent_among
decreases-extent_among g l = 2 * inner_count (forms_of (shapes_of l.nodes.now)) + 1
