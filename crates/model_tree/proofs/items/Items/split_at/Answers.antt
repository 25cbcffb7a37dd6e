use Rattle.std.proofs.Common.{arith, sym}
use Rattle.model_tree.proofs.Halves.{split_nowhere, split_no_element, split_short, split_there, split_gives}
use Rattle.model_tree.proofs.items.Items.split_at.Goals as goal

pub returns-in_default : goal.returns-in_default
returns-in_default c = split_nowhere c.args.path.now c.args.index c.args.offset c.args.shell.now c.args.self.now (sym c.in_default.ensures)

pub returns-in_default-element_at : goal.returns-in_default-element_at
returns-in_default-element_at c =
    split_no_element c.args.path.now c.args.index c.args.offset c.args.shell.now c.args.self.now c.in-Some.level.now (sym c.in-Some.ensures)
    c.in_default-element_at.ensures

pub returns-then-long-offset : goal.returns-then-long-offset
returns-then-long-offset c =
    split_short c.args.path.now c.args.index c.args.offset c.args.shell.now c.args.self.now c.in-Some.level.now c.in-Some-element_at.element.head.now
    c.in-Some-element_at.element.children.now
    (sym c.in-Some.ensures) c.in-Some-element_at.ensures (omega (arith, c.len-long.ensures))

pub returns-in_default-split : goal.returns-in_default-split
returns-in_default-split c =
    split_there c.args.path.now c.args.index c.args.offset c.args.shell.now c.args.self.now c.in-Some.level.now c.in-Some-element_at.element.head.now
    c.in-Some-element_at.element.children.now
    (sym c.in-Some.ensures) c.in-Some-element_at.ensures (omega (arith, c.len-long.ensures))

pub returns : goal.returns
returns c =
    split_gives c.args.path.now c.args.index c.args.offset c.args.shell.now c.args.self.now c.in-Some.level.now c.in-Ok.new
    c.in-Some-element_at.element.head.now c.in-Some-element_at.element.children.now c.replaced_at.result
    (sym c.in-Some.ensures) c.in-Some-element_at.ensures (omega (arith, c.len-long.ensures)) c.in-Ok.ensures c.replaced_at.ensures
