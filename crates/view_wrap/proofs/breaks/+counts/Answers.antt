use Rattle.std.proofs.Common.{arith, sym, ap, ◌∙◌}
use Rattle.view_wrap.specs.Cut.{left_behind}
use Rattle.view_wrap.proofs.Meeting.{item_depth, list_depth}
use Rattle.view_wrap.proofs.Cutting.{layer_entries}
use Rattle.view_wrap.proofs.breaks.+counts.Goals as goal

pub left_behind-left_behind_all-requires : goal.left_behind-left_behind_all-requires
left_behind-left_behind_all-requires t c =
    (omega (arith, c.decreases, list_depth c.args.node.now c.in-Some-children.children.now.nodes c.in-Some-children.ensures), tt)

pub left_behind-returns-in-Some-children : goal.left_behind-returns-in-Some-children
left_behind-returns-in-Some-children t c =
    c.left_behind_all.ensures
    ∙ ap (λ n. left_behind n c.args.at)
    (sym (layer_entries c.args.node.now c.in-Some-children.children.now.nodes (sym c.is_layer.ensures ∙ c.if-not-is_layer.false) c.in-Some-children.ensures))

pub left_behind_all-left_behind-requires : goal.left_behind_all-left_behind-requires
left_behind_all-left_behind-requires t c =
    (omega (arith, c.decreases, item_depth _ c.args.nodes.now.nodes _ _ c.as_slice-node-items.ensures c.loop-node-test.true c.node-item.is), tt)
