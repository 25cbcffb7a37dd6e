use Rattle.std.proofs.Common.{arith}
use Rattle.std.specs.Prelude.{option_copied}
use Rattle.model_tree.proofs.Keys.{full_given}
use Rattle.model_tree.proofs.levels.given.Goals as goal

pub add_node-requires : goal.add_node-requires
add_node-requires c =
    full_given c.args.key.now (option_copied c.args.value) c.deref-node-items.result.now c.args.nodes.now.items c.loop-node.node-index
    c.node-item.result c.in_ok-node.node
    c.deref-node-items.ensures.value c.requires (omega arith) c.node-item.is c.in_ok-node.ensures
