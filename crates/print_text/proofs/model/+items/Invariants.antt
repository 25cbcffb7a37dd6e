use Rattle.std.proofs.Common.{◌≡◌, ◌+◌, ◌*◌, ◌++◌, None, drop, length, string_bytes, option_copied}
use Rattle.item_definitions.specs.Item.{depth_of}
use Rattle.model_tree.specs.Nodes.{items_at, items_in}
use Rattle.print_definitions.specs.ModelText.{items_text}
use Rattle.print_text.specs.Ends.{places_of}
use Rattle.print_text.proofs.model.+items.Given as goal

-- what is there and what is still to come are the whole
abbrev pub invariant-push_items-loop-node : goal.invariant-push_items-loop-node
invariant-push_items-loop-node l = record {
  offset : l.offset + length (items_in (drop l.node-index l.node-items)) ≡ length l.items;
  text : string_bytes l.out ++ items_text (places_of l.marks) l.offset (option_copied l.before) (items_in (drop l.node-index l.node-items))
      ≡ string_bytes l.initial.out ++ items_text (places_of l.marks) 0 None l.items;
}

abbrev pub decreases-push_items : goal.decreases-push_items
decreases-push_items l = 3 * depth_of l.items.now + 1

abbrev pub decreases-push_node : goal.decreases-push_node
decreases-push_node l = 3 * depth_of (items_at l.node.now)

abbrev pub decreases-push_element : goal.decreases-push_element
decreases-push_element l = 3 * depth_of l.children.now + 2
