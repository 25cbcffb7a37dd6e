use Rattle.std.proofs.Common.{◌≡◌, drop}
use Rattle.converter_definitions.specs.Layers.{highlight_of}
use Rattle.conv_rules.specs.Listed.{converters_of}
use Rattle.conv_rules.proofs.layers.highlight_of.Given as goal

abbrev pub invariant-loop-listed : goal.invariant-loop-listed
invariant-loop-listed g l =
    highlight_of (converters_of (λ b. (goal.Converter-dyn g (b.vtable, b.value)).gives b.value) (drop l.listed-index l.fn.entries)) l.fn.marker
    ≡ highlight_of (converters_of (λ b. (goal.Converter-dyn g (b.vtable, b.value)).gives b.value) l.fn.entries) l.fn.marker
