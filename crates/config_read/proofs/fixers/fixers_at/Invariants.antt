use Rattle.std.proofs.Common.{◌≡◌, drop}
use Rattle.serde_json.specs.View.{items_view}
use Rattle.settings_definitions.specs.FixerForm.{fixers_at}
use Rattle.json_names.proofs.Fronts.{with_front}
use Rattle.config_read.proofs.fixers.fixers_at.Given as goal

-- the fixers so far, and those of what is left
abbrev pub invariant-loop-index : goal.invariant-loop-index
invariant-loop-index l =
    with_front l.fixers.items (fixers_at l.path l.index (items_view (drop l.index l.items.items))) ≡ fixers_at l.path 0 (items_view l.items.items)
