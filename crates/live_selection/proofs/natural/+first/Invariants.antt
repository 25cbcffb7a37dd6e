use Rattle.std.proofs.Common.{◌≡◌, ◌+◌, ◌*◌, ◌<◌, ◌^◌, drop}
use Rattle.item_definitions.specs.Item.{count_of, depth_of}
use Rattle.model_tree.specs.Nodes.{items_at, items_in}
use Rattle.live_selection.specs.Within.{first_from}
use Rattle.live_selection.proofs.natural.+first.Given as goal

-- the first character of all nodes is that of the nodes still to come
abbrev pub invariant-first_in_items-loop-node : goal.invariant-first_in_items-loop-node
invariant-first_in_items-loop-node l = record {
  few : l.index + count_of (items_in (drop l.node-index l.node-items)) < 2 ^ 32;
  found : first_from l.bounds l.index (items_in (drop l.node-index l.node-items)) ≡ first_from l.bounds 0 l.items;
}

abbrev pub decreases-first_in_items : goal.decreases-first_in_items
decreases-first_in_items l = 2 * depth_of l.items.now + 1

abbrev pub decreases-first_in_node : goal.decreases-first_in_node
decreases-first_in_node l = 2 * depth_of (items_at l.node.now)
