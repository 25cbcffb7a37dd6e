use Rattle.std.proofs.Common.{◌≡◌, drop}
use Rattle.std.specs.List.{list_any}
use Rattle.fix_definitions.specs.Wanted.{is_named}
use Rattle.model_tree.specs.Nodes.{items_in}
use Rattle.post_fix.proofs.asking.has_child.Given as goal

-- none of the items before is such an element
abbrev pub invariant-loop-node : goal.invariant-loop-node
invariant-loop-node l = list_any (is_named l.fn.name) (items_in (drop l.node-index l.node-items)) ≡ list_any (is_named l.fn.name) l.fn.items
