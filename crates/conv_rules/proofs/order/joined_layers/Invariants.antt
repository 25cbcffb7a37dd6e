use Rattle.std.proofs.Common.{◌≡◌, [], fold}
use Rattle.converter_definitions.specs.Layers.{join_into}
use Rattle.conv_rules.proofs.order.joined_layers.Given as goal

abbrev pub invariant-loop-layer : goal.invariant-loop-layer
invariant-loop-layer l =
    fold (λ made next. join_into next made) l.made.items l.layer-iterator.rest.items ≡ fold (λ made next. join_into next made) [] l.fn.raw.items
