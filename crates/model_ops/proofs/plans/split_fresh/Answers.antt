use Rattle.std.proofs.Common.{Some, ◌∙◌, ap, option_map, sym}
use Rattle.item_definitions.specs.Children.{item_at}
use Rattle.model_tree.specs.Reading.{shown_in, shown_of}
use Rattle.model_ops.proofs.Splitting.{split_none, split_character, split_plans, same_split}
use Rattle.model_ops.proofs.plans.split_fresh.Goals as goal

pub returns-in_default : goal.returns-in_default
returns-in_default c = λ cells _.
    split_none c.args.at.now c.args.id c.args.tree.now cells (c.in_default.ensures
    ∙ ap (λ path. option_map shown_of (item_at path c.args.tree.now)) c.parent-path.ensures.parent)

pub returns-in-Character : goal.returns-in-Character
returns-in-Character c = λ cells _.
    split_character c.args.at.now c.args.id c.args.tree.now cells c.in-Character.scalar c.in-Character.attrs.now
    (ap (λ item. Some (shown_in item)) (sym c.in-Character.is) ∙ c.in-Some.ensures
    ∙ ap (λ path. option_map shown_of (item_at path c.args.tree.now)) c.parent-path.ensures.parent)

pub returns : goal.returns
returns c = λ cells.
    split_plans c.args.at.now c.args.id c.args.tree.now cells
    (record { id = c.in-Element.id; name = c.in-Element.name.now; attributes = c.in-Element.attrs.now }) c.in-Element.count c.in-Ok.shell c.kept.result
    (ap (λ item. Some (shown_in item)) (sym c.in-Element.is) ∙ c.in-Some.ensures
    ∙ ap (λ path. option_map shown_of (item_at path c.args.tree.now)) c.parent-path.ensures.parent)
    c.in-Ok.ensures
    (same_split c.as_slice.result.now _ c.offset-offset.result _ c.in-Ok.shell c.items-in-Element.result.now c.args.tree.now cells c.kept.result
    (c.as_slice.ensures.numbers ∙ c.parent-path.ensures.parent) c.offset-offset.ensures c.items-in-Element.ensures.items
    (c.kept.ensures _ cells c.split_with.ensures))
