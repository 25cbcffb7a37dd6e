use Rattle.std.proofs.Common.{sym, ◌∙◌, ap, refl}
use Rattle.operation_definitions.proofs.Cells.{free-room}
use Rattle.model_tree.specs.Limits.{merged}
use Rattle.model_ops.proofs.Merging.{merge_apart, merge_full, merge_made}
use Rattle.model_ops.proofs.plans.merge.Goals as goal

pub returns-then-not-is_left_end : goal.returns-then-not-is_left_end
returns-then-not-is_left_end c = λ _.
    merge_apart c.args.right.now c.args.target.now c.args.number c.args.items.now c.args.cells.now
    (λ end. absurd (let f = c.if-not-is_left_end.ensures.1 end in cc))

pub returns-then-not-is_free : goal.returns-then-not-is_free
returns-then-not-is_free c = λ _.
    merge_full c.args.right.now c.args.target.now c.args.number c.args.items.now c.args.cells.now c.in-Ok.both.0 c.in-Ok.both.1
    (c.if-not-is_left_end.ensures.0 refl)
    (ap (λ path. merged path c.args.items.now) (sym c.as_slice.ensures.numbers) ∙ c.in-Ok.ensures) (sym c.is_free.ensures ∙ c.if-not-is_free.true)

pub returns : goal.returns
returns c =
    let free = sym c.is_free.ensures ∙ c.if-not-is_free.false in (
      merge_made c.args.right.now c.args.target.now c.args.number c.args.items.now c.args.cells.now c.in-Ok.both.0 c.in-Ok.both.1
          (c.if-not-is_left_end.ensures.0 refl)
          (ap (λ path. merged path c.args.items.now) (sym c.as_slice.ensures.numbers) ∙ c.in-Ok.ensures) free,
      free-room c.args.cells.now c.args.number free,
    )
