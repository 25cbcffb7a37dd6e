use Rattle.std.proofs.Common.{◌≡◌, ◌++◌, reverse, length}
use Rattle.post_fix.proofs.asking.push_turned.Given as goal

-- what was put down, and then the edits that are left, the last first
abbrev pub invariant-loop-edit : goal.invariant-loop-edit
invariant-loop-edit l = l.out.items ++ reverse l.edits.items ≡ l.initial.out.items ++ reverse l.initial.edits.items

abbrev pub decreases-loop-edit : goal.decreases-loop-edit
decreases-loop-edit l = length l.edits.items
