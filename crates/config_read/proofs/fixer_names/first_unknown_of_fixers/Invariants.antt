use Rattle.std.proofs.Common.{◌≡◌, drop}
use Rattle.settings_definitions.specs.FixerNames.{first_unknown_of_fixers}
use Rattle.config_read.proofs.fixer_names.first_unknown_of_fixers.Given as goal

-- what is left tells
abbrev pub invariant-loop-fixer : goal.invariant-loop-fixer
invariant-loop-fixer l = first_unknown_of_fixers l.known (drop l.fixer-index l.fixers) ≡ first_unknown_of_fixers l.known l.fixers
