use Rattle.std.proofs.Common.{◌<◌, length, map, ◌∙◌, arith}
use Rattle.schema_definitions.specs.Rules.{may_have}
use Rattle.schema_rules.proofs.Rows.{keys_inside, keys_row, rows_more}
use Rattle.schema_rules.proofs.tables.keys_table.Goals as goal

pub marked-requires : goal.marked-requires
marked-requires c =
    let inside : c.loop-item.item < length c.args.names.now = omega (arith, c.loop-item-test.true, c.len-count.ensures.count) in
    keys_inside c.args.names.now c.args.entries.now c.requires c.len-count.ensures.distinct c.in_ok-sources.sources c.in_ok-allowed.allowed
    c.in_ok-sources.ensures c.in_ok-allowed.ensures
    c.loop-item.item inside c.in_ok-items.items c.in_ok-items.ensures c.as_slice.result.now c.len-count.result c.len-count.ensures.count
    (c.as_slice.ensures.value ∙ c.in_ok-keys.ensures)

pub loop-item-preserved : goal.loop-item-preserved
loop-item-preserved c =
    let inside : c.loop-item.item < length c.args.names.now = omega (arith, c.loop-item-test.true, c.len-count.ensures.count) in
    rows_more (λ item. map (λ key. may_have c.args.entries.now key item) c.args.names.now) c.args.names.now c.loop-item.rows.items c.push.new.self.items
    c.in_ok-marked.field-0 c.loop-item.item inside c.loop-item.invariant
    (keys_row c.args.names.now c.args.entries.now c.requires c.len-count.ensures.distinct c.in_ok-sources.sources c.in_ok-allowed.allowed
    c.in_ok-sources.ensures c.in_ok-allowed.ensures
    c.loop-item.item inside c.in_ok-items.items c.in_ok-items.ensures c.as_slice.result.now c.in_ok-marked.field-0 c.len-count.result
    c.len-count.ensures.count (c.as_slice.ensures.value ∙ c.in_ok-keys.ensures) c.in_ok-marked.ensures.size c.in_ok-marked.ensures.marks)
    c.in_ok-push.ensures.items
