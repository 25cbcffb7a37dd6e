use Rattle.std.proofs.Common.{◌≡◌, ◌+◌, ◌*◌, drop}
use Rattle.view_definitions.specs.Node.{node_depth, depth_of}
use Rattle.view_wrap.specs.Cut.{entries_of, left_behind}
use Rattle.view_wrap.proofs.breaks.+counts.Given as goal

-- what is left behind all is left behind the nodes still to come
abbrev pub invariant-left_behind_all-loop-node : goal.invariant-left_behind_all-loop-node
invariant-left_behind_all-loop-node l = left_behind (entries_of (drop l.node-index l.node-items)) l.rest ≡ left_behind (entries_of l.node-items) l.initial.rest

abbrev pub decreases-left_behind : goal.decreases-left_behind
decreases-left_behind l = 2 * node_depth l.node.now

abbrev pub decreases-left_behind_all : goal.decreases-left_behind_all
decreases-left_behind_all l = 2 * depth_of l.nodes.now.nodes + 1
