use Rattle.std.proofs.Common.{◌≡◌, ◌+◌, ◌*◌, drop}
use Rattle.item_definitions.specs.Item.{depth_of}
use Rattle.schema_definitions.specs.Allowed.{is_registered}
use Rattle.edit_definitions.specs.Planned.{unknown_in}
use Rattle.model_tree.specs.Nodes.{items_at, items_in}
use Rattle.model_writer.proofs.numbering.+names.Given as goal

abbrev pub decreases-unknown_at : goal.decreases-unknown_at
decreases-unknown_at l = 2 * depth_of (items_at l.node.now)

abbrev pub decreases-unknown_among : goal.decreases-unknown_among
decreases-unknown_among l = 2 * depth_of (items_in l.nodes.now.items) + 1

-- the first unknown name is in the nodes that are left
abbrev pub invariant-unknown_among-loop-node : goal.invariant-unknown_among-loop-node
invariant-unknown_among-loop-node l = unknown_in (is_registered l.schema) (items_in (drop l.node-index l.nodes.items))
    ≡ unknown_in (is_registered l.schema) (items_in l.nodes.items)
