use Rattle.std.proofs.Common.{◌≡◌, ◌+◌, ◌*◌, ◌-◌, ◌^◌, min, length, take}
use Rattle.item_definitions.specs.Item.{depth_of}
use Rattle.document_definitions.specs.Document.{ids_of}
use Rattle.model_tree.specs.Nodes.{items_at, items_in}
use Rattle.model_writer.proofs.numbering.+elements.Given as goal

abbrev pub decreases-elements_at : goal.decreases-elements_at
decreases-elements_at l = 2 * depth_of (items_at l.node.now)

abbrev pub decreases-elements_among : goal.decreases-elements_among
decreases-elements_among l = 2 * depth_of (items_in l.nodes.now.items) + 1

-- the elements of the nodes so far
abbrev pub invariant-elements_among-loop-node : goal.invariant-elements_among-loop-node
invariant-elements_among-loop-node l = l.count ≡ min (length (ids_of (items_in (take l.node-index l.nodes.items)))) (2 ^ 64 - 1)
