use Rattle.std.proofs.Common.{◌≡◌, drop}
use Rattle.schema_rules.specs.Numbering.{with_names}
use Rattle.schema_rules.proofs.numbering.Numbering.with_all.Given as goal

-- what is left makes the names of all
abbrev pub invariant-loop-name : goal.invariant-loop-name
invariant-loop-name l = with_names l.names (drop l.name-index l.more) ≡ with_names l.fn.self l.more
