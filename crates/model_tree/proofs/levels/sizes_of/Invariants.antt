use Rattle.std.proofs.Common.{take}
use Rattle.operation_definitions.specs.Reversed.{AreOrdered}
use Rattle.model_tree.specs.Nodes.{items_in}
use Rattle.model_tree.specs.Sizes.{AreSizes}
use Rattle.model_tree.proofs.levels.sizes_of.Given as goal

-- the sizes so far are those of the nodes so far, in which the keys are in order
abbrev pub invariant-loop-node : goal.invariant-loop-node
invariant-loop-node l =
    AreSizes (items_in (take l.node-index l.nodes.items)) l.sizes.long l.sizes.count l.sizes.depth ×
    AreOrdered (items_in (take l.node-index l.nodes.items))
