use Rattle.std.proofs.Common.{◌≡◌, drop, slice_get}
use Rattle.model_tree.specs.Nodes.{items_in}
use Rattle.post_fix.proofs.placing.element_at.Given as goal

-- the item is at the rest of the offset in the nodes that are left
abbrev pub invariant-loop-node : goal.invariant-loop-node
invariant-loop-node l = slice_get (items_in (drop l.node-index l.nodes.items)) l.rest ≡ slice_get (items_in l.nodes.items) l.offset
