use Rattle.std.proofs.Common.{sym}
use Rattle.model_tree.proofs.Names.{rename_nowhere, rename_no_element, rename_there}
use Rattle.model_tree.proofs.items.Items.rename_at.Goals as goal

pub returns-in_default : goal.returns-in_default
returns-in_default c = rename_nowhere c.args.path.now c.args.offset c.args.name.now c.args.self.now (sym c.in_default.ensures)

pub returns-in_default-element_at : goal.returns-in_default-element_at
returns-in_default-element_at c =
    rename_no_element c.args.path.now c.args.offset c.args.name.now c.args.self.now c.in-Some.level.now (sym c.in-Some.ensures) c.in_default-element_at.ensures

pub returns-in_default-renamed : goal.returns-in_default-renamed
returns-in_default-renamed c =
    rename_there c.args.path.now c.args.offset c.args.name.now c.args.self.now c.in-Some.level.now c.in-Some-element_at.element.head.now
    c.in-Some-element_at.element.children.now
    (sym c.in-Some.ensures) c.in-Some-element_at.ensures
