use Rattle.std.proofs.Common.{◌≡◌, drop, length}
use Rattle.schema_rules.specs.Graph.{visited}
use Rattle.schema_rules.proofs.marks.visit.Given as goal

-- as many marks as there were, and what is left leads to the marks of all
abbrev pub invariant-loop-node : goal.invariant-loop-node
invariant-loop-node l = record {
  size : length l.marks.items ≡ length l.initial.marks.items;
  visits : visited (drop l.node-index l.nodes) l.marks.items l.waiting.items ≡ visited l.nodes l.initial.marks.items l.initial.waiting.items;
}
