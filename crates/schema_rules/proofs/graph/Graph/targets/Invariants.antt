use Rattle.std.proofs.Common.{◌≡◌}
use Rattle.schema_rules.specs.Graph.{targets_below}
use Rattle.schema_rules.proofs.graph.Graph.targets.Given as goal

-- the nodes so far
abbrev pub invariant-loop-node : goal.invariant-loop-node
invariant-loop-node l = l.nodes.items ≡ targets_below l.targets-items l.marks l.node
