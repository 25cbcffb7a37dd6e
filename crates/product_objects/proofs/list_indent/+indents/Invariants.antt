use Rattle.std.proofs.Common.{◌≡◌, ◌++◌, ◌+◌, ◌*◌, drop, None}
use Rattle.item_definitions.specs.Item.{depth_of, items_of}
use Rattle.model_tree.specs.Nodes.{items_at, items_in, IsNormal}
use Rattle.post_fix.specs.Walked.{AreBelow}
use Rattle.fix_definitions.specs.Indents.{indents_from}
use Rattle.product_objects.proofs.list_indent.+indents.Given as goal

-- what was put down, and what is wanted of the nodes to come, is what is wanted of all
abbrev pub invariant-correct_inside-loop-node : goal.invariant-correct_inside-loop-node
invariant-correct_inside-loop-node l = record {
  below : AreBelow l.path l.offset (items_in (drop l.node-index l.node-items));
  normal : IsNormal (drop l.node-index l.node-items);
  going : l.out.items ++ indents_from l.path l.offset l.left (items_of (items_in (drop l.node-index l.node-items)))
      ≡ l.initial.out.items ++ indents_from l.path 0 None (items_of l.items);
}

-- a node counts more than what is in it, and a list of items more than its nodes
abbrev pub decreases-correct_inside : goal.decreases-correct_inside
decreases-correct_inside c = 2 * depth_of c.items.now + 1

abbrev pub decreases-correct_node : goal.decreases-correct_node
decreases-correct_node c = 2 * depth_of (items_at c.node.now)
