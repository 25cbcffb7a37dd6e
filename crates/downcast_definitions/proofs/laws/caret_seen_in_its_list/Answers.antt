use Rattle.downcast_definitions.proofs.Rule.{caret-kind}
use Rattle.downcast_definitions.proofs.CaretLayers.{caret-layers}
use Rattle.downcast_definitions.proofs.laws.caret_seen_in_its_list.Goals as goal

pub returns : goal.returns
returns c = record { layers = caret-layers; text = caret-kind }
