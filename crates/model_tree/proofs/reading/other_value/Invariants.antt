use Rattle.std.proofs.Common.{◌≡◌, drop}
use Rattle.std.specs.Prelude.{option_copied}
use Rattle.operation_definitions.specs.After.{first_other}
use Rattle.model_tree.specs.Nodes.{items_in}
use Rattle.model_tree.proofs.reading.other_value.Given as goal

-- the first other item is among the nodes that are left
abbrev pub invariant-loop-node : goal.invariant-loop-node
invariant-loop-node l = first_other l.key (option_copied l.value) (items_in (drop l.node-index l.nodes.items))
    ≡ first_other l.key (option_copied l.value) (items_in l.nodes.items)
