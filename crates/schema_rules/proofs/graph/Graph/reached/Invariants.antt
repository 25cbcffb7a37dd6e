use Rattle.std.proofs.Common.{◌+◌, length}
use Rattle.schema_rules.specs.Graph.{unmarked}
use Rattle.schema_rules.proofs.Partway.{IsPartway}
use Rattle.schema_rules.proofs.graph.Graph.reached.Given as goal

-- what was marked so far, and what waits
abbrev pub invariant-loop-node : goal.invariant-loop-node
invariant-loop-node l = IsPartway l.self l.start l.marks.items l.waiting.items

-- each node that is marked waits once
abbrev pub decreases-loop-node : goal.decreases-loop-node
decreases-loop-node l = unmarked l.marks.items + length l.waiting.items
