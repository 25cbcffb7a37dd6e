use Rattle.std.proofs.Common.{sym}
use Rattle.model_tree.proofs.Merges.{merge_nowhere, merge_no_left, merge_no_right, merge_there, merge_made, merge_fault}
use Rattle.model_tree.proofs.items.Items.merge_at.Goals as goal

pub returns-in_default : goal.returns-in_default
returns-in_default c = merge_nowhere c.args.path.now c.args.index c.args.self.now (sym c.in_default.ensures)

pub returns-in_default-element_at : goal.returns-in_default-element_at
returns-in_default-element_at c = merge_no_left c.args.path.now c.args.index c.args.self.now c.in-Some.level.now (sym c.in-Some.ensures)
    c.in_default-element_at.ensures

pub returns-in_default-element_at-2 : goal.returns-in_default-element_at-2
returns-in_default-element_at-2 c = merge_no_right c.args.path.now c.args.index c.args.self.now c.in-Some.level.now c.requires (sym c.in-Some.ensures)
    c.in_default-element_at-2.ensures

pub returns-in_default-joined : goal.returns-in_default-joined
returns-in_default-joined c =
    merge_there c.args.path.now c.args.index c.args.self.now c.in-Some.level.now c.in-Some-element_at.left.head.now
    c.in-Some-element_at-2.right.head.now c.in-Some-element_at.left.children.now c.in-Some-element_at-2.right.children.now
    c.requires (sym c.in-Some.ensures) c.in-Some-element_at.ensures c.in-Some-element_at-2.ensures

pub returns-in_default-emptied : goal.returns-in_default-emptied
returns-in_default-emptied c =
    merge_there c.args.path.now c.args.index c.args.self.now c.in-Some.level.now c.in-Some-element_at.left.head.now
    c.in-Some-element_at-2.right.head.now c.in-Some-element_at.left.children.now c.in-Some-element_at-2.right.children.now
    c.requires (sym c.in-Some.ensures) c.in-Some-element_at.ensures c.in-Some-element_at-2.ensures

pub returns-in-Ok-replaced_at : goal.returns-in-Ok-replaced_at
returns-in-Ok-replaced_at c =
    merge_made c.args.path.now c.args.index c.args.self.now c.in-Some.level.now c.in-Some-element_at.left.head.now c.in-Some-element_at-2.right.head.now
    c.in-Some-element_at.left.children.now c.in-Some-element_at-2.right.children.now
    c.in-Ok.one c.in-Ok-emptied.emptied c.in-Ok-replaced_at.rest c.requires (sym c.in-Some.ensures) c.in-Some-element_at.ensures
    c.in-Some-element_at-2.ensures c.in-Ok.ensures c.in-Ok-emptied.ensures c.in-Ok-replaced_at.ensures

pub returns : goal.returns
returns c =
    merge_fault c.args.path.now c.args.index c.args.self.now c.in-Some.level.now c.in-Some-element_at.left.head.now
    c.in-Some-element_at-2.right.head.now c.in-Some-element_at.left.children.now c.in-Some-element_at-2.right.children.now
    c.in-Ok.one c.in-Err.fault c.requires (sym c.in-Some.ensures) c.in-Some-element_at.ensures c.in-Some-element_at-2.ensures c.in-Ok.ensures c.in-Err.ensures
