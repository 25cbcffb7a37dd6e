use Rattle.item_definitions.proofs.Minimal.{flat_parts-minimal}
use Rattle.item_definitions.proofs.flat_parts_are_minimal.Goals as goal

pub returns : goal.returns
returns c = flat_parts-minimal
