use Rattle.std.proofs.Common.{◌≡◌, take}
use Rattle.std.specs.Prelude.{option_copied}
use Rattle.operation_definitions.specs.Level.{given}
use Rattle.model_tree.specs.Nodes.{items_in, IsNormal}
use Rattle.model_tree.proofs.levels.given.Given as goal

-- the nodes so far have the value
abbrev pub invariant-loop-node : goal.invariant-loop-node
invariant-loop-node l = record {
  items : items_in l.made.items ≡ given l.key (option_copied l.value) (items_in (take l.node-index l.nodes.items));
  normal : IsNormal l.made.items;
}
