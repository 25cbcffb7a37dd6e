use Rattle.std.proofs.Common.{arith, refl, sym, ap, ◌∙◌}
use Rattle.std.specs.Prelude.{is_some}
use Rattle.item_definitions.specs.Shift.{rest_behind}
use Rattle.model_tree.proofs.Targets.{elsewhere, at_parent, behind_run, in_run, before_run}
use Rattle.model_tree.proofs.moves.carried.Goals as goal

pub returns-then-not-is_below : goal.returns-then-not-is_below
returns-then-not-is_below c =
    elsewhere c.args.parent.now c.args.offset c.args.count c.args.path.now.items
    (ap (λ path. is_some (rest_behind c.args.parent.now path)) (sym c.as_slice.ensures.value) ∙ sym c.if-not-is_below.ensures)

pub returns-then-len-at : goal.returns-then-len-at
returns-then-len-at c =
    at_parent c.args.parent.now c.args.offset c.args.count c.args.path.now.items
    (ap (λ path. is_some (rest_behind c.args.parent.now path)) (sym c.as_slice.ensures.value) ∙ sym c.if-not-is_below.ensures) (omega arith)

pub returns-then-number-offset : goal.returns-then-number-offset
returns-then-number-offset c =
    behind_run c.args.parent.now c.args.offset c.args.count c.args.path.now.items c.index-number.result.now
    (ap (λ path. is_some (rest_behind c.args.parent.now path)) (sym c.as_slice.ensures.value) ∙ sym c.if-not-is_below.ensures) (omega arith)
    c.index-number.ensures _ (omega arith) refl

pub returns-in_ok-push : goal.returns-in_ok-push
returns-in_ok-push c =
    in_run c.args.parent.now c.args.offset c.args.count c.args.path.now.items c.index-number.result.now
    (ap (λ path. is_some (rest_behind c.args.parent.now path)) (sym c.as_slice.ensures.value) ∙ sym c.if-not-is_below.ensures) (omega arith)
    c.index-number.ensures
    c.truncate.new.self.items c.push.new.self.items (omega arith) (omega arith) c.truncate.ensures.items c.in_ok-push.ensures.items

pub returns-else-number-offset-2 : goal.returns-else-number-offset-2
returns-else-number-offset-2 c =
    before_run c.args.parent.now c.args.offset c.args.count c.args.path.now.items c.index-number.result.now
    (ap (λ path. is_some (rest_behind c.args.parent.now path)) (sym c.as_slice.ensures.value) ∙ sym c.if-not-is_below.ensures) (omega arith)
    c.index-number.ensures (omega arith) (omega arith)
