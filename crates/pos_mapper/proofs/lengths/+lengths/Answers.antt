use Rattle.std.proofs.Common.{arith, ap}
use Rattle.view_definitions.specs.Node.{depth_of}
use Rattle.pos_mapper.proofs.Nodes.{list_depth, read_depth, all_summed}
use Rattle.pos_mapper.proofs.lengths.+lengths.Goals as goal

pub length_of-node_length-requires : goal.length_of-node_length-requires
length_of-node_length-requires t c =
    (omega (arith, c.decreases, read_depth c.args.nodes.now c.loop-node.node-index c.node-item.result c.loop-node-test.true c.node-item.is), tt)

pub node_length-inner_length-requires : goal.node_length-inner_length-requires
node_length-inner_length-requires t c =
    (omega (arith, c.decreases, ap depth_of c.as_slice.ensures, list_depth c.args.node.now c.in-Some-Some.children.now.nodes c.in-Some-Some.ensures'), tt)

pub length_of-returns : goal.length_of-returns
length_of-returns t c =
    all_summed c.args.nodes.now c.loop-node.node-index c.loop-node.sum _ c.loop-node.auto.node-index-end c.loop-node-test.false
    c.loop-node.invariant.total c.loop-node.invariant.small
