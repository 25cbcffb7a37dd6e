use Rattle.std.proofs.Common.{◌≡◌, [], fold}
use Rattle.view_definitions.specs.Change.{with_layer, IsInOrder}
use Rattle.conv_rules.proofs.order.in_order.Given as goal

-- the layers that are made are in their order, and those that are left make of them what all make of none
abbrev pub invariant-loop-layer : goal.invariant-loop-layer
invariant-loop-layer l = record {
  ordered : IsInOrder l.made.items;
  made : fold (λ made next. with_layer next made) l.made.items l.layer-iterator.rest.items ≡ fold (λ made next. with_layer next made) [] l.fn.raw.items;
}
