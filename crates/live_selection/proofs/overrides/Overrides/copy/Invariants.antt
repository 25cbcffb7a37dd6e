use Rattle.std.proofs.Common.{◌≡◌, ◌++◌}
use Rattle.live_selection.proofs.overrides.Overrides.copy.Given as goal

abbrev pub invariant-loop-key : goal.invariant-loop-key
invariant-loop-key l = (l.copy ++ l.key-iterator ≡ l.fn.self)
