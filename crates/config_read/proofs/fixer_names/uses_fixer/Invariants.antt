use Rattle.std.proofs.Common.{◌≡◌, drop}
use Rattle.settings_definitions.specs.FixerNames.{uses_fixer}
use Rattle.config_read.proofs.fixer_names.uses_fixer.Given as goal

-- what is left tells
abbrev pub invariant-loop-fixer : goal.invariant-loop-fixer
invariant-loop-fixer l = uses_fixer (drop l.fixer-index l.fixers) l.name ≡ uses_fixer l.fixers l.name
