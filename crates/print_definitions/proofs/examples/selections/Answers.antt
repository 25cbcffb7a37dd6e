use Rattle.std.proofs.Common.{refl}
use Rattle.std.specs.Fmt.{digits}
use Rattle.print_definitions.specs.SelectionText.{marker_line, direction, selection_line}
use Rattle.print_definitions.proofs.examples.selections.Goals as goal

pub returns-clause-marker : goal.returns-clause-marker
unfolding marker_line digits
returns-clause-marker c = refl

pub returns-clause-forward : goal.returns-clause-forward
unfolding direction selection_line digits
returns-clause-forward c = refl

pub returns-clause-backward : goal.returns-clause-backward
unfolding direction selection_line digits
returns-clause-backward c = refl
