use Rattle.std.proofs.Common.{◌≡◌, [], ◌∷◌, ◌∙◌, sym, ap, arith}
use Rattle.std.proofs.lemmas.Grind.{common_steps}
use Rattle.model_writer.proofs.Numbered.{numbered_element, text_numbered, one_node}
use Rattle.model_writer.proofs.numbering.+numbering.Goals as goal

pub numbered_element-returns-clause-items : goal.numbered_element-returns-clause-items
numbered_element-returns-clause-items t c =
    let h = c.args.head.now in
    numbered_element c.new-id.result c.args.next.now c.in_ok-name.name h.name c.in_ok-attributes.attributes h.attributes c.args.children.now
    c.in_ok-children.children c.in_ok-made.made c.in_ok-made.ensures c.new-id.ensures
    (c.in_ok-name.ensures ∙ c.name.ensures) (c.in_ok-attributes.ensures ∙ c.attrs.ensures) c.in_ok-children.ensures.items

pub numbered-returns-in_ok-made-in-Run-clause-items : goal.numbered-returns-in_ok-made-in-Run-clause-items
numbered-returns-in_ok-made-in-Run-clause-items t c =
    let nodes = c.nodes.result.now.items in
    let node = c.in-Some.node.now in
    let empty : c.in-Some.rest.now ≡ [] = grind (arith, common_steps) in
    let one : nodes ≡ node ∷ [] = sym c.as_slice.ensures.value ∙ c.in-Some.ensures.cases.0 ∙ ap (λ rest. node ∷ rest) empty in
    c.in_ok-made-in-Run.ensures ∙ sym (text_numbered c.args.next.now node c.in-Run.field-0 c.args.items.now c.in-Run.is
    (one_node nodes node c.args.items.now c.nodes.ensures.items one))
