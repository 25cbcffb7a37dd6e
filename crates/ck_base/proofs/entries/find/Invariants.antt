use Rattle.std.proofs.Common.{◌≡◌, drop}
use Rattle.ck_base.specs.Entries.{value_of}
use Rattle.ck_base.proofs.entries.find.Given as goal

-- the value is that of the pairs still to come
abbrev pub invariant-loop-name : goal.invariant-loop-name
invariant-loop-name g l = value_of l.key (drop l.name-index l.entries) ≡ value_of l.key l.entries
