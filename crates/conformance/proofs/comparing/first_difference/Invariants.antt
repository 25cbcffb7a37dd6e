use Rattle.std.proofs.Common.{◌≡◌, ◌≤◌, ◌-◌, take, length}
use Rattle.conformance.proofs.comparing.first_difference.Given as goal

-- the two are the same so far
abbrev pub invariant-loop-index : goal.invariant-loop-index
invariant-loop-index l = record {
  same : take l.index l.wanted ≡ take l.index l.got;
  in_wanted : l.index ≤ length l.wanted;
  in_got : l.index ≤ length l.got;
}

abbrev pub decreases-loop-index : goal.decreases-loop-index
decreases-loop-index l = length l.wanted - l.index
