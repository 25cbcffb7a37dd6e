use Rattle.std.proofs.Common.{◌≡◌, take}
use Rattle.upcast_definitions.proofs.rule.copied_entries.Given as goal

-- the pairs so far
abbrev pub invariant-loop-key : goal.invariant-loop-key
invariant-loop-key l = l.copies.items ≡ take l.key-index l.entries.items
