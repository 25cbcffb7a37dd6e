use Rattle.std.proofs.Common.{◌≡◌, []}
use Rattle.serde_json.specs.View.{members_view}
use Rattle.converter_forms.specs.PatternForm.{texts_from}
use Rattle.converter_read.proofs.patterns.texts_of.Given as goal

-- what is left goes to the texts so far
abbrev pub invariant-loop-key : goal.invariant-loop-key
invariant-loop-key l = (texts_from l.fn.path l.texts (members_view l.key-iterator) ≡ texts_from l.fn.path [] (members_view l.fn.members.entries))
