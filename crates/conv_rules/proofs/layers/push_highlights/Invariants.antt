use Rattle.std.proofs.Common.{◌≡◌, ◌++◌, drop}
use Rattle.converter_definitions.specs.Layers.{highlights}
use Rattle.conv_rules.specs.Listed.{converters_of}
use Rattle.conv_rules.proofs.layers.push_highlights.Given as goal

abbrev pub invariant-loop-marker : goal.invariant-loop-marker
invariant-loop-marker g l =
    l.layers.items ++ highlights (converters_of (λ b. (goal.Converter-dyn g (b.vtable, b.value)).gives b.value) l.fn.entries)
    (drop l.marker-index l.fn.covering)
    ≡ l.initial.layers.items ++ highlights (converters_of (λ b. (goal.Converter-dyn g (b.vtable, b.value)).gives b.value) l.fn.entries) l.fn.covering
