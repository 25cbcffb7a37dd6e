use Rattle.edit_definitions.proofs.Drawn.{ids-numbered, as-before}
use Rattle.edit_definitions.proofs.laws.new_ids_are_drawn_in_order.Goals as goal

pub returns-clause-drawn : goal.returns-clause-drawn
returns-clause-drawn c = ids-numbered

pub returns-clause-as_before : goal.returns-clause-as_before
returns-clause-as_before c = as-before
