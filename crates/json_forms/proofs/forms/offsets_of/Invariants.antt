use Rattle.std.proofs.Common.{◌≡◌, drop}
use Rattle.serde_json.specs.View.{items_view}
use Rattle.json_forms.specs.Form.{offsets_at, field_path}
use Rattle.json_forms.proofs.Offsets.{with_front}
use Rattle.json_forms.proofs.forms.offsets_of.Given as goal

-- the numbers so far, and those of what is left
abbrev pub invariant-loop-index : goal.invariant-loop-index
invariant-loop-index l =
    with_front l.numbers.items (offsets_at (field_path l.path l.name) l.index (items_view (drop l.index l.items.items)))
    ≡ offsets_at (field_path l.path l.name) 0 (items_view l.items.items)
