use Rattle.std.proofs.Common.{length, All, ◌<◌, subst, sym}
use Rattle.schema_rules.specs.Graph.{AreReached}
use Rattle.schema_rules.proofs.Rows.{writers_within, flags_row}
use Rattle.schema_rules.proofs.tables.flag_marks.Goals as goal

pub reached-requires-clause-nodes : goal.reached-requires-clause-nodes
reached-requires-clause-nodes c = subst (λ nodes. All (λ node. node < length c.in_ok-steps.steps) nodes) (sym c.as_slice.ensures.value)
    (writers_within c.args.names.now c.args.entries.now c.requires c.args.flag c.in_ok-steps.steps c.in_ok-steps.ensures c.in_ok-start.start.items
    c.in_ok-start.ensures.inside c.in_ok-start.ensures.writing)

pub returns : goal.returns
returns c = flags_row c.args.names.now c.args.entries.now c.requires c.args.flag c.in_ok-steps.steps c.in_ok-steps.ensures c.in_ok-start.start.items
    c.in_ok-start.ensures.inside c.in_ok-start.ensures.writing c.in_ok-marks.marks
    (subst (λ nodes. AreReached c.in_ok-steps.steps nodes c.in_ok-marks.marks) c.as_slice.ensures.value c.in_ok-marks.ensures)
