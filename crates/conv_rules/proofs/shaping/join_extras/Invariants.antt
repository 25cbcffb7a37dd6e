use Rattle.std.proofs.Common.{◌≡◌, drop, fold}
use Rattle.converter_definitions.specs.Views.{with_extra}
use Rattle.conv_rules.proofs.shaping.join_extras.Given as goal

abbrev pub invariant-loop-extra : goal.invariant-loop-extra
invariant-loop-extra l = fold with_extra l.attrs (drop l.extra-index l.fn.extras) ≡ fold with_extra l.initial.attrs l.fn.extras
