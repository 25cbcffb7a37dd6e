use Rattle.record_definitions.proofs.Leading.{edit_leads, edit_fits, nothing_recorded}
use Rattle.record_definitions.proofs.laws.edits_lead_back.Goals as goal

pub returns : goal.returns
returns c = record {
  led = edit_leads c.operations_keep_order.ensures;
  fit = edit_fits c.operations_keep_order.ensures;
  none = nothing_recorded;
}
