use Rattle.std.proofs.Common.{◌≡◌, drop, fold}
use Rattle.converter_definitions.specs.Views.{with_extra_text}
use Rattle.conv_rules.proofs.shaping.join_extra.Given as goal

abbrev pub invariant-loop-key : goal.invariant-loop-key
invariant-loop-key l = fold with_extra_text l.attrs (drop l.key-index l.key-items) ≡ fold with_extra_text l.initial.attrs l.fn.extra
