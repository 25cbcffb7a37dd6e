use Rattle.std.proofs.Common.{◌≡◌, take}
use Rattle.conv_rules.proofs.layers.copied.Given as goal

abbrev pub invariant-loop-layer : goal.invariant-loop-layer
invariant-loop-layer l = l.copies.items ≡ take l.layer-index l.fn.layers
