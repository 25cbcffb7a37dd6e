use Rattle.std.proofs.Common.{rules, reverse, refl, ap}
use Rattle.undo_stack.specs.Stacked.{Stacked}
use Rattle.undo_stack.proofs.Holding.{may_undo, undo_reaches, undo_mark, is_first}
use Rattle.undo_stack.proofs.stacks.Stacks.undo.Goals as goal

pub take_back_into-requires : goal.take_back_into-requires
take_back_into-requires c =
    let batch = c.in-Some.batch.now in
    let front = c.in-Some.field-0-1.now in
    let lists = c.args.self.now.lists in
    may_undo c.requires.history.0 lists batch (reverse front) c.args.document.now c.requires.history.1
    (is_first lists.earlier c.self.inside.earlier.items front batch (ap (λ (stacks : Stacked). stacks.lists.earlier) c.self.view_is) (search rules))

pub returns-in-Ok-clause-history : goal.returns-in-Ok-clause-history
returns-in-Ok-clause-history c = λ history holds.
    (let batch = c.in-Some.batch.now in
    let front = c.in-Some.field-0-1.now in
    let lists = c.args.self.now.lists in
    undo_reaches history lists c.put_undone.new.self.lists batch
    (reverse front) c.args.document.now.state.document.selection c.args.document.now c.take_back_into.new.document
    (is_first lists.earlier c.self.inside.earlier.items front batch (ap (λ (stacks : Stacked). stacks.lists.earlier) c.self.view_is) (search rules))
    refl (search rules) c.in-Ok.ensures.back holds)

pub returns-in-Ok-clause-mark : goal.returns-in-Ok-clause-mark
returns-in-Ok-clause-mark c =
    let batch = c.in-Some.batch.now in
    let front = c.in-Some.field-0-1.now in
    let lists = c.args.self.now.lists in
    undo_mark lists batch (reverse front) c.args.document.now c.take_back_into.new.document
    (is_first lists.earlier c.self.inside.earlier.items front batch (ap (λ (stacks : Stacked). stacks.lists.earlier) c.self.view_is) (search rules))
    c.in-Ok.ensures.back c.requires.history
