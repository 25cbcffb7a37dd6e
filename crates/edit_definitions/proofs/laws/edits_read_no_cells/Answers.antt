use Rattle.edit_definitions.proofs.Apart.{read_no_cells, made_alone}
use Rattle.edit_definitions.proofs.laws.edits_read_no_cells.Goals as goal

pub returns-clause-any_numbers : goal.returns-clause-any_numbers
returns-clause-any_numbers c = read_no_cells

pub returns-clause-changes : goal.returns-clause-changes
returns-clause-changes c = made_alone
