use Rattle.std.proofs.Common.{◌≡◌, drop, take}
use Rattle.settings_definitions.specs.FixerNames.{unknown_custom_fixer_from, first_unknown_custom_fixer}
use Rattle.config_read.proofs.fixer_names.first_unknown_custom_fixer.Given as goal

-- what is left tells, behind what was passed over
abbrev pub invariant-loop-index : goal.invariant-loop-index
invariant-loop-index l =
    unknown_custom_fixer_from l.handed_in (take l.index l.fixers) (drop l.index l.fixers) ≡ first_unknown_custom_fixer l.handed_in l.fixers
