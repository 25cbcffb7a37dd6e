use Rattle.std.proofs.Common.{arith, ap}
use Rattle.converter_definitions.specs.Form.{forms_of}
use Rattle.converter_definitions.specs.Parts.{shape_of, shapes_of}
use Rattle.converter_definitions.specs.Shape.{form_count, inner_count}
use Rattle.converter_definitions.proofs.Sizes.{one_node}
use Rattle.converter_definitions.proofs.fitting.+fitting.Goals as goal

pub fits-fit_in-requires : goal.fits-fit_in-requires
fits-fit_in-requires g t c κs within =
    (omega (arith, c.decreases, ap (λ node. form_count (shape_of node)) c.in-Element.is, ap (λ forms. inner_count (forms_of forms)) c.as_slice.ensures), within)

pub fit_in-fits-requires : goal.fit_in-fits-requires
fit_in-fits-requires g t c κs within =
    (omega (arith, c.decreases, ap (λ nodes. inner_count (forms_of (shapes_of nodes))) c.in-Some.ensures.cases.0), within)

pub fit_in-fit_in-requires : goal.fit_in-fit_in-requires
fit_in-fit_in-requires g t c κs within = (
  omega (
    arith,
    c.decreases,
    ap (λ nodes. inner_count (forms_of (shapes_of nodes))) c.in-Some.ensures.cases.0,
    one_node (shape_of c.in-Some.node.now),
  ),
  within,
)
