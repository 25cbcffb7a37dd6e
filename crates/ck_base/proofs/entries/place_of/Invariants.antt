use Rattle.std.proofs.Common.{◌≡◌, drop}
use Rattle.ck_base.specs.Entries.{place_from}
use Rattle.ck_base.proofs.entries.place_of.Given as goal

-- the place is that among the pairs still to come
abbrev pub invariant-loop-index : goal.invariant-loop-index
invariant-loop-index g l = place_from l.key l.index (drop l.index l.entries) ≡ place_from l.key 0 l.entries
