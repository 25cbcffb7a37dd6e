use Rattle.std.proofs.Common.{◌≡◌, ◌+◌, ◌-◌, ◌*◌, ◌^◌, ◌≤◌, min, drop}
use Rattle.view_definitions.specs.Node.{node_depth, depth_of}
use Rattle.pos_mapper.specs.Reading.{lengths}
use Rattle.pos_mapper.proofs.lengths.+lengths.Given as goal

-- the sum so far and the nodes still to come are the whole
abbrev pub invariant-length_of-loop-node : goal.invariant-length_of-loop-node
invariant-length_of-loop-node l = record {
  total : min (l.sum + lengths (drop l.node-index l.fn.nodes)) (2 ^ 64 - 1) ≡ min (lengths l.fn.nodes) (2 ^ 64 - 1);
  small : l.sum ≤ 2 ^ 64 - 1;
}

abbrev pub decreases-length_of : goal.decreases-length_of
decreases-length_of l = 3 * depth_of l.nodes.now + 1

abbrev pub decreases-node_length : goal.decreases-node_length
decreases-node_length l = 3 * node_depth l.node.now

abbrev pub decreases-inner_length : goal.decreases-inner_length
decreases-inner_length l = 3 * depth_of l.children.now + 2
