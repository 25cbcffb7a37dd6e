use Rattle.std.proofs.Common.{◌≡◌}
use Rattle.serde_json.specs.View.{members_view}
use Rattle.json_names.proofs.Fronts.{with_front}
use Rattle.converter_forms.specs.PatternForm.{patterns_from}
use Rattle.converter_read.proofs.patterns.patterns_of.Given as goal

-- the patterns so far, and those of what is left
abbrev pub invariant-loop-key : goal.invariant-loop-key
invariant-loop-key l =
    with_front l.patterns (patterns_from l.fn.indexes l.fn.path (members_view l.key-iterator))
    ≡ patterns_from l.fn.indexes l.fn.path (members_view l.fn.members.entries)
