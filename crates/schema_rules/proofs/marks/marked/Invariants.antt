use Rattle.std.proofs.Common.{◌≡◌, ℕ, take, length}
use Rattle.schema_rules.specs.Graph.{among, is_marked}
use Rattle.schema_rules.proofs.marks.marked.Given as goal

-- the nodes so far are marked
abbrev pub invariant-loop-node : goal.invariant-loop-node
invariant-loop-node l = record {
  size : length l.marks.items ≡ l.count;
  marks : (node : ℕ) → is_marked l.marks.items node ≡ among (take l.node-index l.nodes) node;
}
