use Rattle.view_definitions.proofs.Layers.{layer_cmp-total, tied_layers}
use Rattle.view_definitions.proofs.layers_are_in_order.Goals as goal

pub returns : goal.returns
returns c = record { total = layer_cmp-total; ties = tied_layers }
