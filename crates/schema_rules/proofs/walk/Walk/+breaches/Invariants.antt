use Rattle.std.proofs.Common.{◌≡◌, ◌+◌, ◌*◌, drop}
use Rattle.item_definitions.specs.Item.{depth_of}
use Rattle.model_tree.specs.Nodes.{items_at, items_in}
use Rattle.schema_rules.specs.Chosen.{AreThere, breach_from}
use Rattle.schema_rules.proofs.walk.Walk.+breaches.Given as goal

-- the first breach of all nodes is that of the nodes still to come, and the walk is where it was
abbrev pub invariant-breach_below-loop-node : goal.invariant-breach_below-loop-node
invariant-breach_below-loop-node l = record {
  back : l.above ≡ l.initial.above;
  there : AreThere l.initial.above l.index (items_in (drop l.node-index l.node-items));
  found : breach_from l.self.schema.now l.chosen l.initial.above l.index (items_in (drop l.node-index l.node-items))
      ≡ breach_from l.self.schema.now l.chosen l.initial.above 0 l.items;
}

abbrev pub decreases-breach_below : goal.decreases-breach_below
decreases-breach_below l = 4 * depth_of l.items.now + 3

abbrev pub decreases-breach_of_node : goal.decreases-breach_of_node
decreases-breach_of_node l = 4 * depth_of (items_at l.node.now) + 2

abbrev pub decreases-breach_of_element : goal.decreases-breach_of_element
decreases-breach_of_element l = 4 * (1 + depth_of l.parts.children.now) + 1

abbrev pub decreases-breach_inside : goal.decreases-breach_inside
decreases-breach_inside l = 4 * (1 + depth_of l.parts.children.now)
