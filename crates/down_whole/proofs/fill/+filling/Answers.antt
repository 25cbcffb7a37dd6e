use Rattle.std.proofs.Common.{arith, ap, sym, ◌∙◌}
use Rattle.std.specs.Prelude.{◌++◌}
use Rattle.converter_definitions.specs.Form.{forms_of}
use Rattle.converter_definitions.specs.Parts.{shape_of, shapes_of}
use Rattle.converter_definitions.specs.Shape.{form_count, inner_count, slot_count, inner_slots}
use Rattle.converter_definitions.specs.Views.{filled_inner}
use Rattle.down_whole.proofs.Filling.{both_filled}
use Rattle.down_whole.proofs.fill.+filling.Goals as goal

pub fill_node-fill_element-requires : goal.fill_node-fill_element-requires
fill_node-fill_element-requires t c = (
  omega (arith, c.decreases, ap (λ node. form_count (shape_of node)) c.in-Element.is, ap (λ forms. inner_count (forms_of forms)) c.as_slice.ensures),
  omega (arith, c.requires, ap (λ node. slot_count (shape_of node)) c.in-Element.is, ap (λ forms. inner_slots (forms_of forms)) c.as_slice.ensures),
)

pub fill_nodes-returns-in_ok-fill_nodes-in-Some-clause-nodes :
    goal.fill_nodes-returns-in_ok-fill_nodes-in-Some-clause-nodes
fill_nodes-returns-in_ok-fill_nodes-in-Some-clause-nodes t c =
    let whole = ap (λ nodes. forms_of (shapes_of nodes)) c.in-Some.ensures.cases.0 in
    both_filled c.args.out.now.nodes c.fill_node.new.out.nodes c.fill_nodes.new.out.nodes c.args.content.now.nodes c.fill_node.new.content.nodes
    (shape_of c.in-Some.node.now) (forms_of (shapes_of c.in-Some.rest.now))
    (omega (arith, c.requires, ap inner_slots whole)) c.in_ok-fill_node-in-Some.ensures.nodes c.in_ok-fill_node-in-Some.ensures.left
    c.in_ok-fill_nodes-in-Some.ensures.nodes
    ∙ sym (ap (λ forms. c.args.out.now.nodes ++ filled_inner c.args.content.now.nodes forms) whole)
