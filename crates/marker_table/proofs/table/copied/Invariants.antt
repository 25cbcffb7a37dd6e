use Rattle.std.proofs.Common.{◌≡◌, ◌++◌}
use Rattle.ck_base.specs.Entries.{IsOrdered}
use Rattle.marker_table.proofs.table.copied.Given as goal

abbrev pub invariant-loop-name : goal.invariant-loop-name
invariant-loop-name l = (l.copy.entries ++ l.name-iterator ≡ l.fn.table.entries) × IsOrdered l.copy.entries
