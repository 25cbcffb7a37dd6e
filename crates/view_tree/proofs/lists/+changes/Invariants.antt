use Rattle.std.proofs.Common.{◌≡◌, drop}
use Rattle.view_definitions.specs.Place.{changes_of}
use Rattle.view_tree.proofs.lists.+changes.Given as goal

-- the count is that in the nodes still to come
abbrev pub invariant-changes_of-loop-node : goal.invariant-changes_of-loop-node
invariant-changes_of-loop-node l = changes_of l.number (drop l.node-index l.node-items) ≡ changes_of l.number l.nodes.nodes
