use Rattle.std.proofs.Common.{◌≡◌, ◌+◌, ◌*◌, drop}
use Rattle.item_definitions.specs.Item.{depth_of}
use Rattle.document_definitions.specs.Document.{raised, ids_of}
use Rattle.model_tree.specs.Nodes.{items_at, items_in}
use Rattle.model_doc.proofs.carrying.+raised.Given as goal

abbrev pub decreases-raised : goal.decreases-raised
decreases-raised l = 2 * depth_of l.items.now + 1

abbrev pub decreases-raised_by : goal.decreases-raised_by
decreases-raised_by l = 2 * depth_of (items_at l.node.now)

-- the nodes that are left raise the id to the same one as all nodes
abbrev pub invariant-raised-loop-node : goal.invariant-raised-loop-node
invariant-raised-loop-node l = raised l.above (ids_of (items_in (drop l.node-index l.node-items))) ≡ raised l.fn.next (ids_of l.items)
