use Rattle.std.proofs.Common.{◌≡◌, ◌+◌, ◌*◌, ◌≤◌, take, length}
use Rattle.item_definitions.specs.Item.{depth_of, items_of}
use Rattle.model_tree.specs.Nodes.{items_at, items_in}
use Rattle.post_fix.specs.Nearest.{last_ahead}
use Rattle.post_fix.proofs.walk.Walk.+backwards.Given as goal

-- the last position in all nodes is that in the nodes that are left
abbrev pub invariant-last_ahead-loop-left : goal.invariant-last_ahead-loop-left
invariant-last_ahead-loop-left l = record {
  back : l.names.items ≡ l.initial.names.items;
  within : l.left ≤ length l.nodes.items;
  offset : l.offset ≡ length (items_in (take l.left l.nodes.items));
  found : last_ahead l.self.schema.now l.initial.names.items l.path l.upto 0 (items_of (items_in (take l.left l.nodes.items)))
      ≡ last_ahead l.self.schema.now l.initial.names.items l.path l.upto 0 (items_of l.items);
}

abbrev pub decreases-last_ahead-loop-left : goal.decreases-last_ahead-loop-left
decreases-last_ahead-loop-left l = l.left

-- a node counts more than what is in it, and a list of items more than its nodes
abbrev pub decreases-last_here : goal.decreases-last_here
decreases-last_here c = 3 * depth_of c.items.now + 2

abbrev pub decreases-last_ahead : goal.decreases-last_ahead
decreases-last_ahead c = 3 * depth_of c.items.now + 1

abbrev pub decreases-last_in_node : goal.decreases-last_in_node
decreases-last_in_node c = 3 * depth_of (items_at c.node.now)
