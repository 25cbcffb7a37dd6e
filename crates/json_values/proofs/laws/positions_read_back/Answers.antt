use Rattle.json_values.proofs.Written.{position_written, path_written}
use Rattle.json_values.proofs.laws.positions_read_back.Goals as goal

pub returns-clause-position : goal.returns-clause-position
returns-clause-position c = position_written

pub returns-clause-path : goal.returns-clause-path
returns-clause-path c = path_written
