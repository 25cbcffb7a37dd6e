use Rattle.std.proofs.Common.{◌≡◌, ◌++◌, ◌+◌, ◌*◌, drop, None}
use Rattle.std.specs.Prelude.{option_copied}
use Rattle.item_definitions.specs.Item.{depth_of, items_of}
use Rattle.model_tree.specs.Nodes.{items_at, items_in, IsNormal}
use Rattle.post_fix.specs.Walked.{AreBelow, wanted_from}
use Rattle.post_fix.proofs.asking.+asking.Given as goal

-- what was put down, and what is wanted of the nodes to come, is what is wanted of all
abbrev pub invariant-ask_inside-loop-node : goal.invariant-ask_inside-loop-node
invariant-ask_inside-loop-node l = record {
  below : AreBelow l.path l.offset (items_in (drop l.node-index l.node-items));
  normal : IsNormal (drop l.node-index l.node-items);
  going : l.out.items ++ wanted_from l.fixer l.path l.offset (option_copied l.left) (items_of (items_in (drop l.node-index l.node-items)))
      ≡ l.initial.out.items ++ wanted_from l.fixer l.path 0 None (items_of l.items);
}

-- a node counts more than what is in it, and a list of items more than its nodes
abbrev pub decreases-ask_inside : goal.decreases-ask_inside
decreases-ask_inside c = 2 * depth_of c.items.now + 1

abbrev pub decreases-ask_node : goal.decreases-ask_node
decreases-ask_node c = 2 * depth_of (items_at c.node.now)
