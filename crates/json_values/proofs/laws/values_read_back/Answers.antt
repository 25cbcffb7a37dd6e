use Rattle.json_values.proofs.Written.{value_written, nullable_written, attributes_written}
use Rattle.json_values.proofs.laws.values_read_back.Goals as goal

pub returns-clause-value : goal.returns-clause-value
returns-clause-value c = value_written

pub returns-clause-nullable : goal.returns-clause-nullable
returns-clause-nullable c = nullable_written

pub returns-clause-attributes : goal.returns-clause-attributes
returns-clause-attributes c = attributes_written
