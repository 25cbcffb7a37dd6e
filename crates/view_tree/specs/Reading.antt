-- What a view on a node shows.
use Rattle.std.specs.Prelude.{◌≡◌, length, Option, Some, None}
use Rattle.view_tree.specs.declared.node.NodeRef.{NodeRef}
use Rattle.view_tree.specs.declared.node.NodeRef.TheVariants.{Text, Element}
use Rattle.view_tree.specs.Kinds.{kind_of}
use Rattle.view_definitions.specs.Node.{ViewNode, text, element, list_of}

-- the node's parts, and of an element how many children it has
abbrev pub Shows : NodeRef → ViewNode → Type 0
Shows (Text scalars) (text node_scalars) = scalars.now ≡ node_scalars
Shows (Text scalars) (element head children) = ⊥
Shows (Element kind name attrs number count) (text node_scalars) = ⊥
Shows (Element kind name attrs number count) (element head children) =
    (kind_of kind.now ≡ head.kind) × (name.now ≡ head.name) × (attrs.now ≡ head.attributes) × (number ≡ head.number) × (count ≡ length (list_of children))

-- the node where there is one
abbrev pub ShowsSome : Option NodeRef → Option ViewNode → Type 0
ShowsSome None None = Unit {0}
ShowsSome None (Some node) = ⊥
ShowsSome (Some shown) None = ⊥
ShowsSome (Some shown) (Some node) = Shows shown node
