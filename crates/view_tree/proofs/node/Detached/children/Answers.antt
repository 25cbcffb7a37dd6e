use Rattle.std.proofs.Common.{Some, ap, sym, ◌∙◌}
use Rattle.view_definitions.specs.Node.{children_of}
use Rattle.view_tree.specs.Parts.{node_view}
use Rattle.view_tree.proofs.Listed.{listed}
use Rattle.view_tree.proofs.node.Detached.children.Goals as goal

pub returns-in-Element : goal.returns-in-Element
returns-in-Element c = ap Some (sym (listed c.in-Element.children.nodes)) ∙ ap children_of (ap node_view (sym c.in-Element.is) ∙ c.self.view_is)
