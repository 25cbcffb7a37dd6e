use Rattle.std.proofs.Common.{◌≡◌, ◌++◌, take}
use Rattle.view_tree.proofs.kind.push_name.Given as goal

-- the name so far stands behind the text
abbrev pub invariant-loop-byte : goal.invariant-loop-byte
invariant-loop-byte l = l.text.items ≡ l.initial.text.items ++ take l.byte-index l.byte-items
