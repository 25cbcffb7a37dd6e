use Rattle.std.proofs.Common.{◌≡◌, ◌+◌, drop}
use Rattle.conv_rules.specs.Listed.{listed, place_behind}
use Rattle.conv_rules.proofs.list.place_behind.Given as goal

abbrev pub invariant-loop-place : goal.invariant-loop-place
invariant-loop-place g l =
    l.place + place_behind l.fn.priority (listed (λ b. (goal.Converter-dyn g (b.vtable, b.value)).gives b.value) (drop l.place l.fn.entries))
    ≡ place_behind l.fn.priority (listed (λ b. (goal.Converter-dyn g (b.vtable, b.value)).gives b.value) l.fn.entries)
