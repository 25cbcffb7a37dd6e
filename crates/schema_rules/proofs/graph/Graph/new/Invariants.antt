use Rattle.std.proofs.Common.{◌≡◌, [], replicate}
use Rattle.schema_rules.proofs.graph.Graph.new.Given as goal

-- so many nodes so far
abbrev pub invariant-loop : goal.invariant-loop
invariant-loop l = l.targets.items ≡ replicate l.counter []
