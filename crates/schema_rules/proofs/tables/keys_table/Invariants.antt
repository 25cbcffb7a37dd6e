use Rattle.std.proofs.Common.{◌≡◌, take}
use Rattle.schema_rules.specs.Tables.{key_rows}
use Rattle.schema_rules.proofs.tables.keys_table.Given as goal

-- the rows so far
abbrev pub invariant-loop-item : goal.invariant-loop-item
invariant-loop-item l = l.rows.items ≡ key_rows l.names l.entries (take l.item l.names)
