-- The keys of the items that nodes stand for are in order.
use Rattle.std.proofs.Common.{◌≡◌, ℕ, ◌+◌, ◌<◌, List, [], ◌∷◌, ◌++◌, map, length, get_or, take, subst, ap, ◌∙◌}
use Rattle.ck_base.specs.Entries.{IsOrdered}
use Rattle.item_definitions.specs.Item.{Item, Attributes, character, items_of}
use Rattle.operation_definitions.specs.Reversed.{AreOrdered, IsInnerOrdered}
use Rattle.operation_definitions.proofs.Ordered.{children-ordered, append-ordered}
use Rattle.model_tree.specs.declared.items.Node.{Node}
use Rattle.model_tree.specs.declared.items.Node.TheVariants.{Run, Element}
use Rattle.model_tree.specs.Parts.{TextParts, HeadParts}
use Rattle.model_tree.specs.Nodes.{items_at, items_in}
use Rattle.model_tree.proofs.Steps.{up_to}

characters_ordered : (attributes : Attributes) (scalars : List ℕ) → IsOrdered attributes → AreOrdered (map (λ scalar. character scalar attributes) scalars)
characters_ordered attributes [] h = tt
characters_ordered attributes (scalar ∷ scalars) h = (h, characters_ordered attributes scalars h)

pub text_ordered : (text : TextParts) → IsOrdered text.attributes → AreOrdered (items_at (Run text))
text_ordered text h = characters_ordered text.attributes text.scalars h

pub element_ordered : (head : HeadParts) (children : List Item) → IsOrdered head.attributes → AreOrdered children
    → AreOrdered (items_at (Element head children))
element_ordered head children h inside = ((h, children-ordered children inside), tt)

pub next_ordered : (read nodes : List Node) (index : ℕ) (node : Node) → read ≡ nodes → index < length nodes → node ≡ get_or read index node
    → AreOrdered (items_in (take index nodes)) → AreOrdered (items_at node) → AreOrdered (items_in (take (index + 1) nodes))
next_ordered read nodes index node same less found front here =
    subst AreOrdered (up_to nodes index node less (found ∙ ap (λ xs. get_or xs index node) same))
    (append-ordered (items_in (take index nodes)) (items_at node) front here)
