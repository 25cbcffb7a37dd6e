use Rattle.std.proofs.Common.{◌≡◌, drop}
use Rattle.serde_json.specs.View.{items_view}
use Rattle.json_names.proofs.Fronts.{with_front}
use Rattle.converter_forms.specs.ConverterForm.{converters_at}
use Rattle.converter_read.proofs.converters.converters_at.Given as goal

-- the converters so far, and those of what is left
abbrev pub invariant-loop-index : goal.invariant-loop-index
invariant-loop-index l =
    with_front l.plans.items (converters_at l.indexes l.path l.index (items_view (drop l.index l.items.items)))
    ≡ converters_at l.indexes l.path 0 (items_view l.items.items)
