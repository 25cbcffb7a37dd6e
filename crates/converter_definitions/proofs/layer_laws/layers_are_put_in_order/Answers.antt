use Rattle.converter_definitions.proofs.LayerOrder.{is-in-order, has-the-same, made-in-order}
use Rattle.converter_definitions.proofs.layer_laws.layers_are_put_in_order.Goals as goal

pub returns : goal.returns
returns c = record { sorted = is-in-order; same = has-the-same; made = made-in-order }
