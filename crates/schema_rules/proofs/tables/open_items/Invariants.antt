use Rattle.std.proofs.Common.{◌≡◌, ℕ, ◌<◌, take, length}
use Rattle.schema_definitions.specs.Entries.{leaves_open}
use Rattle.schema_rules.specs.Graph.{is_marked}
use Rattle.schema_rules.specs.Numbering.{named}
use Rattle.schema_rules.proofs.tables.open_items.Given as goal

-- those that the entries so far leave open
abbrev pub invariant-loop-entry : goal.invariant-loop-entry
invariant-loop-entry l = record {
  size : length l.left ≡ length l.names;
  left : (node : ℕ) → node < length l.names → is_marked l.left node ≡ leaves_open (take l.entry-index l.entries) l.flag (named l.names node);
}
