use Rattle.std.proofs.Common.{◌≡◌, ℕ, ◌<◌, true, take, length}
use Rattle.schema_definitions.specs.Entries.{sets}
use Rattle.schema_rules.specs.Graph.{among}
use Rattle.schema_rules.specs.Numbering.{named}
use Rattle.schema_rules.proofs.tables.writers.Given as goal

-- those of the entries so far
abbrev pub invariant-loop-entry : goal.invariant-loop-entry
invariant-loop-entry l = record {
  inside : (node : ℕ) → among l.nodes.items node ≡ true → node < length l.names;
  writing : (node : ℕ) → node < length l.names → among l.nodes.items node ≡ sets (take l.entry-index l.entries) l.flag (named l.names node);
}
