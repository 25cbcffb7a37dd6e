use Rattle.std.proofs.Common.{◌≡◌, drop}
use Rattle.serde_json.specs.View.{items_view}
use Rattle.json_names.specs.Names.{names_at}
use Rattle.json_names.proofs.Fronts.{with_front}
use Rattle.json_names.proofs.names.names_at.Given as goal

-- the names so far, and those of what is left
abbrev pub invariant-loop-index : goal.invariant-loop-index
invariant-loop-index l =
    with_front l.names.items (names_at l.path l.index (items_view (drop l.index l.items.items))) ≡ names_at l.path 0 (items_view l.items.items)
