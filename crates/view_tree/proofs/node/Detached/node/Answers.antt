use Rattle.std.proofs.Common.{ap, sym, ◌∙◌, length}
use Rattle.view_tree.specs.Parts.{node_view}
use Rattle.view_tree.proofs.Listed.{listed}
use Rattle.view_tree.proofs.node.Detached.node.Goals as goal

pub returns-in-Element : goal.returns-in-Element
returns-in-Element c = let is = ap node_view (sym c.in-Element.is) ∙ c.self.view_is in rw (← is) (
  ap (λ h. h.kind) c.head.view_is,
  ap (λ h. h.name) c.head.view_is,
  ap (λ h. h.attributes) c.head.view_is,
  ap (λ h. h.number) c.head.view_is,
  c.len.ensures ∙ ap length (sym (listed c.in-Element.children.nodes)),
)
