use Rattle.std.proofs.Common.{◌≡◌, take, string_bytes}
use Rattle.machine_definitions.specs.Texts.{quoted_text}
use Rattle.text_escapes.proofs.escapes.quoted_text.Given as goal

-- the characters so far
abbrev pub invariant-loop-scalar : goal.invariant-loop-scalar
invariant-loop-scalar l = string_bytes l.text ≡ quoted_text (take l.scalar-index l.scalars)
