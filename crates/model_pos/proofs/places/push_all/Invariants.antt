use Rattle.std.proofs.Common.{◌≡◌, ◌++◌, take}
use Rattle.model_pos.proofs.places.push_all.Given as goal

abbrev pub invariant-loop-number : goal.invariant-loop-number
invariant-loop-number l = l.path ≡ l.initial.path ++ take l.number-index l.numbers
