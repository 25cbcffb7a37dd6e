use Rattle.std.proofs.Common.{◌<◌, length, map, ◌∙◌, arith}
use Rattle.schema_definitions.specs.Rules.{stands_in}
use Rattle.schema_rules.proofs.Rows.{there_inside, children_row, rows_more}
use Rattle.schema_rules.proofs.tables.children_table.Goals as goal

pub reached-requires-in-loop-parent-clause-nodes : goal.reached-requires-in-loop-parent-clause-nodes
reached-requires-in-loop-parent-clause-nodes c =
    let inside : c.loop-parent.parent < length c.args.names.now = omega (arith, c.loop-parent-test.true, c.len-count.ensures.count) in
    there_inside c.args.names.now c.args.entries.now c.requires c.len-count.ensures.distinct c.in_ok-content.content c.in_ok-placed.placed
    c.in_ok-standing.standing c.in_ok-content.ensures c.in_ok-placed.ensures c.in_ok-standing.ensures
    c.loop-parent.parent inside c.in_ok-parents.parents c.in_ok-parents.ensures c.as_slice.result.now (c.as_slice.ensures.value ∙ c.in_ok-there.ensures)

pub loop-parent-preserved : goal.loop-parent-preserved
loop-parent-preserved c =
    let inside : c.loop-parent.parent < length c.args.names.now = omega (arith, c.loop-parent-test.true, c.len-count.ensures.count) in
    rows_more (λ parent. map (λ item. stands_in c.args.entries.now item parent) c.args.names.now) c.args.names.now c.loop-parent.rows.items
    c.push.new.self.items c.in_ok-reached.field-0 c.loop-parent.parent inside c.loop-parent.invariant
    (children_row c.args.names.now c.args.entries.now c.requires c.len-count.ensures.distinct c.in_ok-content.content c.in_ok-placed.placed
    c.in_ok-standing.standing c.in_ok-content.ensures c.in_ok-placed.ensures c.in_ok-standing.ensures
    c.loop-parent.parent inside c.in_ok-parents.parents c.in_ok-parents.ensures c.as_slice.result.now c.in_ok-reached.field-0 (c.as_slice.ensures.value
    ∙ c.in_ok-there.ensures) c.in_ok-reached.ensures)
    c.in_ok-push.ensures.items
