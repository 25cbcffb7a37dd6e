use Rattle.std.proofs.Common.{rules, reverse, ap}
use Rattle.undo_stack.specs.Stacked.{Stacked}
use Rattle.undo_stack.proofs.Holding.{may_redo, redo_reaches, redo_mark, is_first}
use Rattle.undo_stack.proofs.stacks.Stacks.redo.Goals as goal

pub make_anew_into-requires : goal.make_anew_into-requires
make_anew_into-requires c =
    let undone = c.in-Some.undone.now in
    let front = c.in-Some.field-0-1.now in
    let lists = c.args.self.now.lists in
    may_redo c.requires.history.0 lists undone (reverse front) c.args.document.now c.requires.history.1
    (is_first lists.undone c.self.inside.undone.items front undone (ap (λ (stacks : Stacked). stacks.lists.undone) c.self.view_is) (search rules))

pub returns-in-Ok-clause-history : goal.returns-in-Ok-clause-history
returns-in-Ok-clause-history c = λ history holds.
    (let undone = c.in-Some.undone.now in
    let front = c.in-Some.field-0-1.now in
    let lists = c.args.self.now.lists in
    redo_reaches history lists c.put_redone.new.self.lists undone (reverse front) c.in-Ok.batch c.args.document.now c.make_anew_into.new.document
    (is_first lists.undone c.self.inside.undone.items front undone (ap (λ (stacks : Stacked). stacks.lists.undone) c.self.view_is) (search rules))
    (search rules) c.in-Ok.ensures.on holds)

pub returns-in-Ok-clause-mark : goal.returns-in-Ok-clause-mark
returns-in-Ok-clause-mark c =
    let undone = c.in-Some.undone.now in
    let front = c.in-Some.field-0-1.now in
    let lists = c.args.self.now.lists in
    redo_mark lists undone (reverse front) c.in-Ok.batch c.args.document.now c.make_anew_into.new.document
    (is_first lists.undone c.self.inside.undone.items front undone (ap (λ (stacks : Stacked). stacks.lists.undone) c.self.view_is) (search rules))
    c.in-Ok.ensures.on c.requires.history
