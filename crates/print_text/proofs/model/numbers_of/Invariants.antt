use Rattle.std.proofs.Common.{◌≡◌, take}
use Rattle.print_text.proofs.model.numbers_of.Given as goal

-- the numbers so far
abbrev pub invariant-loop-number : goal.invariant-loop-number
invariant-loop-number l = l.numbers.items ≡ take l.number-index l.number-items
