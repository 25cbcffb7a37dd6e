use Rattle.json_values.proofs.Kept.{position_kept, path_kept, value_kept, nullable_kept, attributes_kept}
use Rattle.json_values.proofs.laws.what_is_read_keeps_the_limits.Goals as goal

pub returns-clause-position : goal.returns-clause-position
returns-clause-position c = position_kept

pub returns-clause-path : goal.returns-clause-path
returns-clause-path c = path_kept

pub returns-clause-value : goal.returns-clause-value
returns-clause-value c = value_kept

pub returns-clause-nullable : goal.returns-clause-nullable
returns-clause-nullable c = nullable_kept

pub returns-clause-attributes : goal.returns-clause-attributes
returns-clause-attributes c = attributes_kept
