use Rattle.std.specs.Prelude.{◌+◌, ◌*◌}
use Rattle.converter_definitions.specs.Form.{forms_of}
use Rattle.converter_definitions.specs.Parts.{shape_of, shapes_of}
use Rattle.converter_definitions.specs.Shape.{form_count, inner_count}
use Rattle.converter_definitions.proofs.fitting.+fitting.Given as goal

abbrev pub decreases-fits : goal.decreases-fits
decreases-fits g l = 2 * form_count (shape_of l.node.now)

abbrev pub decreases-fit_in : goal.decreases-fit_in
decreases-fit_in g l = 2 * inner_count (forms_of (shapes_of l.nodes.now)) + 1
