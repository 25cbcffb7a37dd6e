-- Items and nodes for the worked examples.
use Rattle.std.specs.Prelude.{ℕ, List, [], map, None, codes}
use Rattle.item_definitions.specs.Item.{Item, Attributes, character, element, items_of}
use Rattle.view_definitions.specs.Node.{ViewNode, container, nodes_of}
use Rattle.view_definitions.specs.Node as nodes
use Rattle.print_definitions.specs.Marks.{Ends}

-- the characters of a text with these attributes
abbrev pub chars_with : Attributes → List ℕ → List Item
chars_with attributes scalars = map (λ scalar. character scalar attributes) scalars

-- a paragraph of these items
abbrev pub paragraph_of : List Item → Item
paragraph_of items = element 1 (codes "paragraph") [] (items_of items)

-- a container of this name
abbrev pub container_of : List ℕ → List ViewNode → ViewNode
container_of name children = nodes.element (record { kind = container; name = name; attributes = []; number = None; changes = 0 }) (nodes_of children)

-- a selection between two places
abbrev pub from_to : List ℕ → List ℕ → Ends
from_to start end = record { start = start; end = end }
