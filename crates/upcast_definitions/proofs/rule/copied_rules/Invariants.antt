use Rattle.std.proofs.Common.{◌≡◌, take}
use Rattle.upcast_definitions.proofs.rule.copied_rules.Given as goal

-- the rules so far
abbrev pub invariant-loop-rule : goal.invariant-loop-rule
invariant-loop-rule l = l.copies.items ≡ take l.rule-index l.rules.items
