use Rattle.std.proofs.Common.{◌≡◌, ◌++◌, take, string_bytes}
use Rattle.print_definitions.specs.Values.{attributes_text}
use Rattle.print_text.proofs.model.push_attributes.Given as goal

-- the attributes so far
abbrev pub invariant-loop-key : goal.invariant-loop-key
invariant-loop-key l = string_bytes l.out ≡ string_bytes l.initial.out ++ attributes_text (take l.key-index l.key-items)
