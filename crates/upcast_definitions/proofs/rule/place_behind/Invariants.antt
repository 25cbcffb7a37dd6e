use Rattle.std.proofs.Common.{◌≡◌, ◌+◌, drop}
use Rattle.upcast_definitions.specs.Order.{place_behind}
use Rattle.upcast_definitions.proofs.rule.place_behind.Given as goal

abbrev pub invariant-loop-place : goal.invariant-loop-place
invariant-loop-place l = l.place + place_behind l.fn.priority (drop l.place l.fn.rules) ≡ place_behind l.fn.priority l.fn.rules
