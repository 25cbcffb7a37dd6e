use Rattle.std.proofs.Common.{arith}
use Rattle.model_tree.proofs.Steps.{next_sizes}
use Rattle.model_tree.proofs.Ordered.{next_ordered}
use Rattle.model_tree.proofs.levels.sizes_of.Goals as goal

pub loop-node-preserved : goal.loop-node-preserved
loop-node-preserved c = (
  next_sizes c.deref-node-items.result.now c.args.nodes.now.items c.loop-node.node-index c.node-item.result c.deref-node-items.ensures.value
      (omega arith) c.node-item.is
      _ _ _ _ _ _ _ _ _ c.loop-node.invariant.0 c.sizes.ensures.sizes c.plus-sizes.ensures.long c.plus-sizes.ensures.count c.plus-sizes.ensures.depth,
  next_ordered c.deref-node-items.result.now c.args.nodes.now.items c.loop-node.node-index c.node-item.result c.deref-node-items.ensures.value
      (omega arith) c.node-item.is c.loop-node.invariant.1 c.sizes.ensures.ordered,
)
