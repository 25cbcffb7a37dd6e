use Rattle.down_whole.proofs.Ways.{in_element}
use Rattle.down_whole.proofs.maker.+ways.Goals as goal

pub way_to-returns-in_ok-below-in-Element : goal.way_to-returns-in_ok-below-in-Element
way_to-returns-in_ok-below-in-Element t c =
    in_element c.args.index c.args.behind c.args.node.now c.in-Element.kind c.in-Element.name c.in-Element.attrs c.in-Element.children
    c.as_slice.result.now _ _ c.in-Element.is c.as_slice.ensures c.in_ok-below-in-Element.ensures c.in_ok-way-in-Element.ensures
