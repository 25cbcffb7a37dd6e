use Rattle.std.proofs.Common.{◌<◌, length, ap, sym, ◌∙◌, arith}
use Rattle.view_tree.specs.Parts.{node_view}
use Rattle.view_tree.proofs.Steps.{stands, list_step, put_step}
use Rattle.view_tree.proofs.lists.+take_list.Goals as goal

pub returns-clause-list : goal.returns-clause-list
returns-clause-list t c =
    let same = ap (λ list. list.nodes) c.nodes.view_is in
    let within : c.in-Some.first.now < length c.nodes.inside.nodes.items = omega arith in
    let at = stands c.nodes.inside.nodes.items c.args.nodes.now.nodes c.in-Some.first.now _ _ same within c.index_mut-node.ensures.value
    (ap node_view (sym c.in-Element.is) ∙ c.node.view_is) in
    list_step c.nodes.inside.nodes.items c.args.nodes.now.nodes c.in-Some.first.now c.in-Some.rest.now c.args.path.now c.in-Element.field-0
    c.in-Element.children.nodes same at c.in-Some.ensures.cases.0 _ c.take_list.ensures.list

pub returns-clause-left : goal.returns-clause-left
returns-clause-left t c =
    let same = ap (λ list. list.nodes) c.nodes.view_is in
    let within : c.in-Some.first.now < length c.nodes.inside.nodes.items = omega arith in
    let at = stands c.nodes.inside.nodes.items c.args.nodes.now.nodes c.in-Some.first.now _ _ same within c.index_mut-node.ensures.value
    (ap node_view (sym c.in-Element.is) ∙ c.node.view_is) in
    put_step c.nodes.inside.nodes.items c.args.nodes.now.nodes c.in-Some.first.now c.in-Some.rest.now c.args.path.now c.in-Element.field-0
    c.in-Element.children.nodes same at c.in-Some.ensures.cases.0 _ _ c.take_list.ensures.left
