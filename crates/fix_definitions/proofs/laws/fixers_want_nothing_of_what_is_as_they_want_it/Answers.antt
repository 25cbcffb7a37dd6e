use Rattle.fix_definitions.proofs.Resting.{drop_attributes, fill, join_neighbours, remove_empty, require, selection_place}
use Rattle.fix_definitions.proofs.laws.fixers_want_nothing_of_what_is_as_they_want_it.Goals as goal

pub returns-clause-drop_attributes : goal.returns-clause-drop_attributes
returns-clause-drop_attributes c = drop_attributes

pub returns-clause-fill : goal.returns-clause-fill
returns-clause-fill c = fill

pub returns-clause-join_neighbours : goal.returns-clause-join_neighbours
returns-clause-join_neighbours c = join_neighbours

pub returns-clause-remove_empty : goal.returns-clause-remove_empty
returns-clause-remove_empty c = remove_empty

pub returns-clause-require : goal.returns-clause-require
returns-clause-require c = require

pub returns-clause-selection_place : goal.returns-clause-selection_place
returns-clause-selection_place c = selection_place
