use Rattle.std.proofs.Common.{sym, ◌∙◌, ap, Ok}
use Rattle.std.specs.Prelude.{is_some}
use Rattle.operation_definitions.specs.After.{room_at, fill}
use Rattle.model_ops.proofs.Parting.{not_empty, split_no_cell, split_no_shell, split_made, split_fault, split_room, same_fault}
use Rattle.model_ops.proofs.plans.split_from_cell.Goals as goal

pub returns-in_default : goal.returns-in_default
returns-in_default c = λ _.
    split_no_cell c.args.at.now c.split-offset.result.0.now c.split-offset.result.1 c.args.number c.args.items.now c.args.cells.now
    c.split-offset.ensures.parent c.split-offset.ensures.offset
    (not_empty c.split-offset.result.0.now c.if-is_empty.ensures) (ap (λ path. is_some (room_at c.args.items.now path)) c.split-offset.ensures.whole
    ∙ sym c.if-not-has_place.ensures) c.in_default.ensures

pub returns-then-not-is_shell : goal.returns-then-not-is_shell
returns-then-not-is_shell c = λ _.
    split_no_shell c.args.at.now c.split-offset.result.0.now c.split-offset.result.1 c.args.number c.args.items.now c.args.cells.now
    c.split-offset.ensures.parent c.split-offset.ensures.offset
    (not_empty c.split-offset.result.0.now c.if-is_empty.ensures) (ap (λ path. is_some (room_at c.args.items.now path)) c.split-offset.ensures.whole
    ∙ sym c.if-not-has_place.ensures)
    c.in-Some.shell.now c.in-Some.ensures (sym c.if-not-is_shell.ensures)

pub returns-in-Err : goal.returns-in-Err
returns-in-Err c =
    same_fault _ c.op_fault.result c.in-Err.fault c.op_fault.ensures
    (split_fault c.args.at.now c.split-offset.result.0.now c.split-offset.result.1 c.args.number c.args.items.now c.args.cells.now
    c.split-offset.ensures.parent c.split-offset.ensures.offset
    (not_empty c.split-offset.result.0.now c.if-is_empty.ensures) (ap (λ path. is_some (room_at c.args.items.now path)) c.split-offset.ensures.whole
    ∙ sym c.if-not-has_place.ensures)
    c.in-Some.shell.now c.in-Some.ensures (sym c.if-not-is_shell.ensures) c.in-Err.fault c.in-Err.ensures)

pub returns : goal.returns
returns c =
    let there = ap (λ path. is_some (room_at c.args.items.now path)) c.split-offset.ensures.whole ∙ sym c.if-not-has_place.ensures in (
      split_made c.args.at.now c.split-offset.result.0.now c.split-offset.result.1 c.args.number c.args.items.now c.args.cells.now
          c.split-offset.ensures.parent c.split-offset.ensures.offset
          (not_empty c.split-offset.result.0.now c.if-is_empty.ensures) there c.in-Some.shell.now c.in-Some.ensures (sym c.if-not-is_shell.ensures)
          c.in-Ok.made c.in-Ok.ensures
          ∙ ap (λ items. Ok (c.in-Ok.made, fill c.args.cells.now c.args.number items)) (sym c.in-Ok-new.ensures),
      split_room c.args.at.now c.split-offset.result.0.now c.split-offset.result.1 c.args.number c.args.items.now c.args.cells.now
          c.split-offset.ensures.parent c.split-offset.ensures.offset
          (not_empty c.split-offset.result.0.now c.if-is_empty.ensures) there c.in-Some.shell.now c.in-Some.ensures (sym c.if-not-is_shell.ensures),
    )
