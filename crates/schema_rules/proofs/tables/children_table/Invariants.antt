use Rattle.std.proofs.Common.{◌≡◌, take}
use Rattle.schema_rules.specs.Tables.{children_rows}
use Rattle.schema_rules.proofs.tables.children_table.Given as goal

-- the rows so far
abbrev pub invariant-loop-parent : goal.invariant-loop-parent
invariant-loop-parent l = l.rows.items ≡ children_rows l.names l.entries (take l.parent l.names)
