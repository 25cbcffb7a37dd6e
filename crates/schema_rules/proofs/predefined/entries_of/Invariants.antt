use Rattle.std.proofs.Common.{◌≡◌, ◌++◌, take}
use Rattle.schema_definitions.specs.Compiled.{predefined}
use Rattle.schema_rules.proofs.predefined.entries_of.Given as goal

-- the entries so far
abbrev pub invariant-loop-entry : goal.invariant-loop-entry
invariant-loop-entry l = l.entries.items ≡ predefined ++ take l.entry-index l.file.entries.items
