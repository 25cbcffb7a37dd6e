use Rattle.std.proofs.Common.{◌≡◌, ◌+◌, ◌*◌, drop}
use Rattle.item_definitions.specs.Item.{depth_of, items_of}
use Rattle.model_tree.specs.Nodes.{items_at, items_in}
use Rattle.post_fix.specs.Nearest.{first_behind}
use Rattle.post_fix.specs.Walked.{AreBelow}
use Rattle.post_fix.proofs.walk.Walk.+forwards.Given as goal

-- the first position in all nodes is that in the nodes to come
abbrev pub invariant-first_behind-loop-node : goal.invariant-first_behind-loop-node
invariant-first_behind-loop-node l = record {
  back : l.names.items ≡ l.initial.names.items;
  below : AreBelow l.path l.offset (items_in (drop l.node-index l.node-items));
  found : first_behind l.self.schema.now l.initial.names.items l.path l.from l.offset (items_of (items_in (drop l.node-index l.node-items)))
      ≡ first_behind l.self.schema.now l.initial.names.items l.path l.from 0 (items_of l.items);
}

-- a node counts more than what is in it, and a list of items more than its nodes
abbrev pub decreases-first_here : goal.decreases-first_here
decreases-first_here c = 3 * depth_of c.items.now + 2

abbrev pub decreases-first_behind : goal.decreases-first_behind
decreases-first_behind c = 3 * depth_of c.items.now + 1

abbrev pub decreases-first_in_node : goal.decreases-first_in_node
decreases-first_in_node c = 3 * depth_of (items_at c.node.now)
