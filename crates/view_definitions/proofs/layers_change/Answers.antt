use Rattle.view_definitions.proofs.Changes.{with-in_order, with-has, without-in_order, without-has}
use Rattle.view_definitions.proofs.layers_change.Goals as goal

pub returns : goal.returns
returns c = record { with_in_order = with-in_order; with_one = with-has; without_in_order = without-in_order; without_one = without-has }
