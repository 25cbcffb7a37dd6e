use Rattle.std.proofs.Common.{◌≡◌, drop}
use Rattle.converter_definitions.specs.Layers.{leaf_of}
use Rattle.conv_rules.specs.Listed.{converters_of}
use Rattle.conv_rules.proofs.layers.leaf_of.Given as goal

abbrev pub invariant-loop-listed : goal.invariant-loop-listed
invariant-loop-listed g l =
    leaf_of (converters_of (λ b. (goal.Converter-dyn g (b.vtable, b.value)).gives b.value) (drop l.listed-index l.fn.entries)) l.fn.marker
    ≡ leaf_of (converters_of (λ b. (goal.Converter-dyn g (b.vtable, b.value)).gives b.value) l.fn.entries) l.fn.marker
