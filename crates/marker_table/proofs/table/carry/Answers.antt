use Rattle.std.proofs.Common.{◌≡◌, ◌<◌, length, IfSome, slice_get, arith, subst}
use Rattle.std.specs.Map.{values_of}
use Rattle.indexmap.specs.IndexMap.{set_value_at}
use Rattle.item_definitions.specs.Shift.{carry_range}
use Rattle.model_pos.specs.Shifts.{shift_of}
use Rattle.marker_table.proofs.Carrying.{one_more}
use Rattle.marker_table.proofs.table.carry.Goals as goal

pub loop-index-preserved : goal.loop-index-preserved
loop-index-preserved c =
    let shift = shift_of c.args.shift.now in
    let index = c.loop-index.index in
    let less : index < length c.args.table.now.entries = omega (arith, c.loop-index-test.true, c.len-index-end.ensures.len) in
    one_more shift index c.args.table.now.entries c.carry_at.new.table.entries less
    (subst (λ es. IfSome (slice_get (values_of es) index) (λ range. c.carry_at.new.table.entries ≡ set_value_at es index (carry_range shift range)))
    c.loop-index.invariant c.carry_at.ensures)
