use Rattle.std.proofs.Common.{◌≡◌}
use Rattle.document_definitions.specs.Selection.{overridden}
use Rattle.live_selection.proofs.overrides.Overrides.override_in.Given as goal

abbrev pub invariant-loop-key : goal.invariant-loop-key
invariant-loop-key l = (overridden l.key-iterator l.attrs ≡ overridden l.fn.self l.initial.attrs)
