use Rattle.document_definitions.proofs.Staying.{stay_in_place}
use Rattle.document_definitions.proofs.items_stay.Goals as goal

pub returns : goal.returns
returns c = stay_in_place
