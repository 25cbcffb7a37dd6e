use Rattle.std.proofs.Common.{◌≡◌, ◌++◌, ◌+◌, ◌*◌, drop, string_bytes}
use Rattle.view_definitions.specs.Node.{node_depth, depth_of}
use Rattle.print_definitions.specs.ViewText.{nodes_text}
use Rattle.print_text.specs.Ends.{places_of}
use Rattle.print_text.proofs.view.+nodes.Given as goal

-- what is there and what is still to come are the whole
abbrev pub invariant-push_nodes-loop-node : goal.invariant-push_nodes-loop-node
invariant-push_nodes-loop-node l = record {
  index : l.index ≡ l.node-index;
  text : string_bytes l.out ++ nodes_text (places_of l.marks) l.index (drop l.node-index l.node-items)
      ≡ string_bytes l.initial.out ++ nodes_text (places_of l.marks) 0 l.nodes.nodes;
}

abbrev pub decreases-push_nodes : goal.decreases-push_nodes
decreases-push_nodes l = 3 * depth_of l.nodes.now.nodes + 1

abbrev pub decreases-push_node : goal.decreases-push_node
decreases-push_node l = 3 * node_depth l.node.now

abbrev pub decreases-push_element : goal.decreases-push_element
decreases-push_element l = 3 * depth_of l.children.now.nodes + 2
