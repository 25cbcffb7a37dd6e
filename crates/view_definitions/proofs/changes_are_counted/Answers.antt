use Rattle.view_definitions.proofs.Counting.{nearest-counts, others-keep, new-bring}
use Rattle.view_definitions.proofs.changes_are_counted.Goals as goal

pub returns : goal.returns
returns c = record { nearest = nearest-counts; others = others-keep; new = new-bring }
