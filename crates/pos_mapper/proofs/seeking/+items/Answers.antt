use Rattle.std.proofs.Common.{arith}
use Rattle.pos_mapper.proofs.Holder.{held-within, around_depth}
use Rattle.pos_mapper.proofs.seeking.+items.Goals as goal

pub item_at-item_inside-requires : goal.item_at-item_inside-requires
item_at-item_inside-requires t c =
    let w = held-within c.args.nodes.now c.args.number 0 c.in-Some.field-0-0 c.in-Some.rest c.in-Some.node.now c.in-Some.ensures in
    let deep = w.0 in
    (omega (arith, c.decreases, deep), tt)

pub item_inside-item_at-requires : goal.item_inside-item_at-requires
item_inside-item_at-requires t c =
    (omega (arith, c.decreases, around_depth c.args.node.now c.in-Some.children.now c.in-Some.ensures), tt)
