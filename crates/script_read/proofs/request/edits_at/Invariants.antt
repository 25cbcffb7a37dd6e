use Rattle.std.proofs.Common.{◌≡◌, drop}
use Rattle.serde_json.specs.View.{items_view}
use Rattle.script_definitions.specs.Edits.{edits_at}
use Rattle.json_names.proofs.Fronts.{with_front}
use Rattle.script_read.proofs.request.edits_at.Given as goal

-- the edits so far, and those of what is left
abbrev pub invariant-loop-index : goal.invariant-loop-index
invariant-loop-index l =
    with_front l.edits.items (edits_at l.path l.index (items_view (drop l.index l.items.items))) ≡ edits_at l.path 0 (items_view l.items.items)
