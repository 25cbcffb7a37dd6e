use Rattle.std.proofs.Common.{◌≡◌, take}
use Rattle.ck_base.proofs.attributes.copied_values.Given as goal

-- the pairs so far
abbrev pub invariant-loop-key : goal.invariant-loop-key
invariant-loop-key l = l.copies.items ≡ take l.key-index l.entries.items
