use Rattle.std.proofs.Common.{Some, ◌∙◌, ap, refl, sym}
use Rattle.model_tree.specs.Reading.{shown_in}
use Rattle.model_ops.proofs.Renamed.{rename_none, rename_character, rename_differs, rename_plans, same_rename}
use Rattle.model_ops.proofs.plans.rename.Goals as goal

pub returns-in_default : goal.returns-in_default
returns-in_default c = λ cells _. rename_none c.args.path.now c.args.old.now c.args.new.now c.args.tree.now cells c.in_default.ensures

pub returns-in-Character : goal.returns-in-Character
returns-in-Character c = λ cells _.
    rename_character c.args.path.now c.args.old.now c.args.new.now c.args.tree.now cells c.in-Character.scalar c.in-Character.attrs.now
    (ap (λ item. Some (shown_in item)) (sym c.in-Character.is) ∙ c.in-Some.ensures)

pub returns-then-eq : goal.returns-then-eq
returns-then-eq c = λ cells.
    rename_plans c.args.path.now c.args.old.now c.args.new.now c.args.tree.now cells
    (record { id = c.in-Element.id; name = c.in-Element.name.now; attributes = c.in-Element.attrs.now }) c.in-Element.count
    (ap (λ item. Some (shown_in item)) (sym c.in-Element.is) ∙ c.in-Some.ensures) c.kept.result (c.if-eq.ensures.same.0 refl)
    (same_rename c.as_slice.result.now c.args.path.now c.args.new.now c.items.result.now c.args.tree.now cells c.kept.result c.as_slice.ensures.numbers
    c.items.ensures.items
    (c.kept.ensures _ cells c.renamed_at.ensures))

pub returns-in-Ok : goal.returns-in-Ok
returns-in-Ok c = λ cells _.
    rename_differs c.args.path.now c.args.old.now c.args.new.now c.args.tree.now cells
    (record { id = c.in-Element.id; name = c.in-Element.name.now; attributes = c.in-Element.attrs.now }) c.in-Element.count
    (ap (λ item. Some (shown_in item)) (sym c.in-Element.is) ∙ c.in-Some.ensures) c.in-Ok.name c.in-Ok.ensures
    (λ same. absurd (let f = c.if-eq.ensures.same.1 same in cc))
