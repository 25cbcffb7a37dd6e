use Rattle.std.proofs.Common.{◌≡◌, []}
use Rattle.serde_json.specs.View.{members_view}
use Rattle.json_values.specs.Values.{attributes_from}
use Rattle.json_values.proofs.values.attributes_of.Given as goal

abbrev pub invariant-loop-key : goal.invariant-loop-key
invariant-loop-key l = (attributes_from l.fn.path l.attrs (members_view l.key-iterator) ≡ attributes_from l.fn.path [] (members_view l.fn.members.entries))
