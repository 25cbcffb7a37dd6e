use Rattle.model_tree.proofs.Found.{replaced_lower}
use Rattle.model_tree.proofs.items.Items.+replaced_at.Goals as goal

pub returns-in-Ok-with_element : goal.returns-in-Ok-with_element
returns-in-Ok-with_element t c =
    replaced_lower c.in-Some.first.now c.in-Some.rest.now c.args.path.now c.args.offset c.args.count c.args.new.now c.args.self.now
    c.in-Some-element_at.element.head.now c.in-Some-element_at.element.children.now c.in-Ok.children c.in-Ok-with_element.items
    c.in-Some.ensures.cases.0 c.in-Some-element_at.ensures c.in-Ok.ensures c.in-Ok-with_element.ensures
