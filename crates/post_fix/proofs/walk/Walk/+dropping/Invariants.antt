use Rattle.std.proofs.Common.{◌≡◌, ◌++◌, ◌+◌, ◌*◌, drop}
use Rattle.item_definitions.specs.Item.{depth_of}
use Rattle.model_tree.specs.Nodes.{items_at, items_in}
use Rattle.post_fix.specs.Dropped.{nodes_dropped}
use Rattle.post_fix.specs.Walked.{AreBelow}
use Rattle.post_fix.proofs.walk.Walk.+dropping.Given as goal

-- what was put down, and what is dropped of the nodes to come, is what is dropped of all
abbrev pub invariant-drop_inside-loop-node : goal.invariant-drop_inside-loop-node
invariant-drop_inside-loop-node l = record {
  back : l.names.items ≡ l.initial.names.items;
  below : AreBelow l.path l.offset (items_in (drop l.node-index l.node-items));
  going : l.out.items ++ nodes_dropped l.self.schema.now l.initial.names.items l.path l.offset (drop l.node-index l.node-items)
      ≡ l.initial.out.items ++ nodes_dropped l.self.schema.now l.initial.names.items l.path 0 l.node-items;
}

-- a node counts more than what is in it, and a list of items more than its nodes
abbrev pub decreases-drop_inside : goal.decreases-drop_inside
decreases-drop_inside c = 2 * depth_of c.items.now + 1

abbrev pub decreases-drop_node : goal.decreases-drop_node
decreases-drop_node c = 2 * depth_of (items_at c.node.now)
