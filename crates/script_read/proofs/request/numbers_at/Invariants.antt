use Rattle.std.proofs.Common.{◌≡◌, drop}
use Rattle.serde_json.specs.View.{items_view}
use Rattle.json_forms.proofs.Offsets.{with_front}
use Rattle.script_definitions.specs.Places.{numbers_at}
use Rattle.script_read.proofs.request.numbers_at.Given as goal

-- the numbers so far, and those of what is left
abbrev pub invariant-loop-index : goal.invariant-loop-index
invariant-loop-index l =
    with_front l.numbers.items (numbers_at l.path l.index (items_view (drop l.index l.items.items))) ≡ numbers_at l.path 0 (items_view l.items.items)
