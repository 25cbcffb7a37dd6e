use Rattle.std.proofs.Common.{arith, ◌+◌, ◌-◌, ◌<◌, ◌≤◌, drop, length, slice_get, option_and_then, ap, ◌∙◌}
use Rattle.model_tree.specs.Nodes.{items_at, items_in}
use Rattle.model_tree.specs.Places.{parts_of}
use Rattle.model_tree.proofs.Found.{found_in, found_behind}
use Rattle.model_tree.proofs.Steps.{from_on}
use Rattle.post_fix.proofs.placing.element_at.Goals as goal

pub returns-then-rest-long : goal.returns-then-rest-long
returns-then-rest-long c =
    let next = from_on c.deref-node-items.result.now c.args.nodes.now.items c.loop-node.node-index c.node-item.result c.deref-node-items.ensures.value
    (omega arith) c.node-item.is in
    let within : c.loop-node.rest < length (items_at c.node-item.result) = omega (arith, c.len-long.ensures) in
    c.element_in_node.ensures c.loop-node.rest within
    ∙ ap (option_and_then parts_of) (found_in (items_at c.node-item.result) (items_in (drop (c.loop-node.node-index + 1) c.args.nodes.now.items)) _
    (items_in c.args.nodes.now.items) c.loop-node.rest c.args.offset next within c.loop-node.invariant)

pub loop-node-preserved : goal.loop-node-preserved
loop-node-preserved c =
    let next = from_on c.deref-node-items.result.now c.args.nodes.now.items c.loop-node.node-index c.node-item.result c.deref-node-items.ensures.value
    (omega arith) c.node-item.is in
    let behind : length (items_at c.node-item.result) ≤ c.loop-node.rest = omega (arith, c.len-long.ensures) in
    let rest = items_in (drop (c.loop-node.node-index + 1) c.args.nodes.now.items) in
    ap (λ n. slice_get rest (c.loop-node.rest - n)) c.len-long.ensures
    ∙ found_behind (items_at c.node-item.result) rest _ (items_in c.args.nodes.now.items) c.loop-node.rest c.args.offset next behind c.loop-node.invariant
