-- What kinds of the code mean.
use Rattle.std.specs.Prelude.{ℕ, Bool, true, false, Option}
use Rattle.view_tree.specs.declared.kind.ElementKind.{ElementKind}
use Rattle.view_tree.specs.declared.kind.ElementKind.TheVariants.{Container, Attribute, Empty, Ui}
use Rattle.view_tree.specs.declared.kind.NodeKind.{NodeKind}
use Rattle.view_tree.specs.declared.kind.NodeKind.TheVariants.{Text, Element}
use Rattle.view_definitions.specs.Node.{Kind, container, attribute, empty, ui, ViewNode, text, element, none}

-- what kind of element it is, as the definitions have it
abbrev pub kind_of : ElementKind → Kind
kind_of Container = container
kind_of (Attribute priority id) = attribute priority id
kind_of Empty = empty
kind_of Ui = ui

-- whether a node of this kind is an element
abbrev pub is_element : NodeKind → Bool
is_element (Text scalars) = false
is_element (Element kind name attrs) = true

-- the node of this kind without children; an element has this number, if it has one, and no changes are counted
abbrev pub node_of : Option ℕ → NodeKind → ViewNode
node_of number (Text scalars) = text scalars
node_of number (Element kind name attrs) =
    element (record { kind = kind_of kind; name = name; attributes = attrs; number = number; changes = 0 }) none
