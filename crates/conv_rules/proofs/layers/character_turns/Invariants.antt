use Rattle.std.proofs.Common.{◌≡◌, drop, fold}
use Rattle.converter_definitions.specs.Gives.{with_gift}
use Rattle.converter_definitions.specs.Layers.{character_gift}
use Rattle.conv_rules.specs.Gifts.{made_view}
use Rattle.conv_rules.specs.Listed.{converters_of}
use Rattle.conv_rules.proofs.layers.character_turns.Given as goal

abbrev pub invariant-loop-listed : goal.invariant-loop-listed
invariant-loop-listed g l =
    fold (λ made converter. with_gift made (character_gift l.fn.attributes converter)) (made_view l.made)
    (converters_of (λ b. (goal.Converter-dyn g (b.vtable, b.value)).gives b.value) (drop l.listed-index l.fn.entries))
    ≡ fold (λ made converter. with_gift made (character_gift l.fn.attributes converter)) (made_view l.initial.made)
    (converters_of (λ b. (goal.Converter-dyn g (b.vtable, b.value)).gives b.value) l.fn.entries)
