use Rattle.std.proofs.Common.{ℕ, Bool, List}
use Rattle.record_definitions.proofs.Tracing.{traced_back, traced_fit, none_changed}
use Rattle.record_definitions.proofs.laws.traced_batches_lead_back.Goals as goal

pub returns : goal.returns
returns c = record {
  led = λ registered. traced_back registered c.operations_keep_order.ensures;
  fit = λ registered. traced_fit registered c.operations_keep_order.ensures;
  none = none_changed;
}
