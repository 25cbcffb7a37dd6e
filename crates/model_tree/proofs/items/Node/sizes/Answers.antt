use Rattle.std.proofs.Common.{arith, sym, subst}
use Rattle.model_tree.specs.Nodes.{items_at}
use Rattle.model_tree.specs.Sizes.{AreSizes}
use Rattle.model_tree.proofs.Counts.{text_sizes, element_sizes}
use Rattle.model_tree.proofs.items.Node.sizes.Goals as goal

pub returns-then-long-eq0-clause-sizes : goal.returns-then-long-eq0-clause-sizes
returns-then-long-eq0-clause-sizes c =
    subst (λ node. AreSizes (items_at node) c.len-long.result c.len-long.result 0) (sym c.in-Run.is)
    (text_sizes c.in-Run.text.attributes c.in-Run.text.scalars c.len-long.result 0 c.len-long.ensures (omega arith) (omega arith))

pub returns-else-long-eq0-clause-sizes : goal.returns-else-long-eq0-clause-sizes
returns-else-long-eq0-clause-sizes c =
    subst (λ node. AreSizes (items_at node) c.len-long.result c.len-long.result 1) (sym c.in-Run.is)
    (text_sizes c.in-Run.text.attributes c.in-Run.text.scalars c.len-long.result 1 c.len-long.ensures (omega arith) (omega arith))

pub returns-in-Element-clause-sizes : goal.returns-in-Element-clause-sizes
returns-in-Element-clause-sizes c =
    let head = c.in-Element.head in
    let inside = c.children.inside in
    subst (λ node. AreSizes (items_at node) 1 c.saturating_add.result c.saturating_add-in-Element.result) (sym c.in-Element.is)
    (element_sizes head.id head.name head.attributes _ inside.sizes.long inside.sizes.count inside.sizes.depth c.saturating_add.result
    c.saturating_add-in-Element.result
    (subst (λ items. AreSizes items inside.sizes.long inside.sizes.count inside.sizes.depth) c.children.view_is c.children.invariant.sizes)
    c.saturating_add.ensures c.saturating_add-in-Element.ensures)
