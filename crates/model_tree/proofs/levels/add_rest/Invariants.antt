use Rattle.std.proofs.Common.{◌≡◌, ◌++◌, drop}
use Rattle.model_tree.specs.Nodes.{items_in, IsNormal}
use Rattle.model_tree.proofs.levels.add_rest.Given as goal

-- what is still to be put behind the others is at the start of the nodes that are left
abbrev pub invariant-loop-node : goal.invariant-loop-node
invariant-loop-node l = record {
  items : items_in l.made.items ++ drop l.skip (items_in (drop l.node-index l.nodes.items))
      ≡ items_in l.initial.made.items ++ drop l.offset (items_in l.nodes.items);
  normal : IsNormal l.initial.made.items → IsNormal l.made.items;
}
