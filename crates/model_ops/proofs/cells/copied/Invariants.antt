use Rattle.std.proofs.Common.{◌≡◌, take}
use Rattle.model_ops.proofs.cells.copied.Given as goal

-- the lists so far are copied
abbrev pub invariant-loop-items : goal.invariant-loop-items
invariant-loop-items l = l.copies.items ≡ take l.items-index l.cells.items
