use Rattle.std.proofs.Common.{length, ap, sym, ◌∙◌}
use Rattle.std.specs.Prelude.{is_some}
use Rattle.model_tree.proofs.Moving.{run_fault, move_there, target_some, move_gives}
use Rattle.model_tree.proofs.items.Items.moved.Goals as goal

pub returns-in-Err : goal.returns-in-Err
returns-in-Err c =
    run_fault c.args.parent.now c.args.offset c.args.count c.args.to.now c.args.to_offset c.args.self.now c.in-Err.fault
    (sym c.if-not-has_place.ensures) c.in-Err.ensures

pub returns-in_default : goal.returns-in_default
returns-in_default c =
    move_there c.args.parent.now c.args.offset c.args.count c.args.to.now c.args.to_offset c.args.self.now (ap is_some c.in-Ok.ensures)
    (sym c.if-not-has_place.ensures)

pub unreachable-requires : goal.unreachable-requires
unreachable-requires c =
    target_some c.args.parent.now c.args.offset c.args.count c.args.to.now c.args.to_offset c.args.self.now c.in-Ok-target_of.target.items
    c.in-Ok-target_of.ensures
    (ap length (sym c.as_slice.ensures.value) ∙ c.in_default-split_last.ensures.cases)

pub returns : goal.returns
returns c =
    move_gives c.args.parent.now c.args.offset c.args.count c.args.to.now c.args.to_offset c.args.self.now c.in-Ok.both.0 c.in-Ok.both.1
    c.in-Ok-target_of.target.items c.in-Some.path.now c.in-Some.at.now c.put_in_at.result
    c.in-Ok.ensures (sym c.if-not-has_place.ensures) c.in-Ok-target_of.ensures (sym c.as_slice.ensures.value ∙ c.in-Some.ensures.cases.0) c.put_in_at.ensures
