use Rattle.std.proofs.Common.{◌+◌, ◌∙◌, arith, ap, drop, get_or, option_map, sym}
use Rattle.std.specs.Prelude.{option_copied}
use Rattle.ck_base.specs.Entries.{value_of}
use Rattle.item_definitions.specs.Item.{attributes_of}
use Rattle.operation_definitions.specs.After.{first_other}
use Rattle.model_tree.specs.Nodes.{items_at, items_in}
use Rattle.model_tree.proofs.Keys.{full_at}
use Rattle.model_tree.proofs.OneValue.{found_first, passed_first}
use Rattle.model_tree.proofs.Steps.{from_on}
use Rattle.model_tree.proofs.reading.other_value.Goals as goal

pub returns-then-not-same : goal.returns-then-not-same
returns-then-not-same c =
    let key = c.args.key.now in
    let old = option_copied c.args.value in
    let index = c.loop-node.node-index in
    let nodes = c.args.nodes.now.items in
    let next = from_on c.deref-node-items.result.now nodes index c.node-item.result c.deref-node-items.ensures.value (omega arith) c.node-item.is in
    let full = full_at nodes index c.node-item.result c.requires (omega arith) (c.node-item.is
    ∙ ap (λ xs. get_or xs index c.node-item.result) c.deref-node-items.ensures.value) in
    found_first key (option_copied c.value_in-found.result) old (items_at c.node-item.result) (items_in (drop (index + 1) nodes))
    c.value_in-found.ensures full (sym c.if-not-same.ensures)
    ∙ ap (option_map (λ item. value_of key (attributes_of item))) (sym (ap (first_other key old) next) ∙ c.loop-node.invariant)

pub loop-node-preserved : goal.loop-node-preserved
loop-node-preserved c =
    let key = c.args.key.now in
    let old = option_copied c.args.value in
    let index = c.loop-node.node-index in
    let nodes = c.args.nodes.now.items in
    let next = from_on c.deref-node-items.result.now nodes index c.node-item.result c.deref-node-items.ensures.value (omega arith) c.node-item.is in
    sym (passed_first key (option_copied c.value_in-found.result) old (items_at c.node-item.result) (items_in (drop (index + 1) nodes))
    c.value_in-found.ensures (sym c.if-not-same.ensures))
    ∙ sym (ap (first_other key old) next) ∙ c.loop-node.invariant
