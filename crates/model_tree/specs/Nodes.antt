-- The items that nodes stand for, and the normal form of a list of nodes.
use Rattle.std.specs.Prelude.{◌≡◌, ◌<◌, List, [], ◌∷◌, map, length}
use Rattle.std.specs.List.{flat_map}
use Rattle.model_tree.specs.declared.items.Node.{Node}
use Rattle.model_tree.specs.declared.items.Node.TheVariants.{Run, Element}
use Rattle.model_tree.specs.Parts.{TextParts}
use Rattle.item_definitions.specs.Item.{Item, character, element, items_of}

-- the characters of a text
abbrev pub characters : TextParts → List Item
characters text = map (λ scalar. character scalar text.attributes) text.scalars

-- the items that a node stands for
abbrev pub items_at : Node → List Item
items_at (Run text) = characters text
items_at (Element head children) = element head.id head.name head.attributes (items_of children) ∷ []

-- the items that nodes stand for
abbrev pub items_in : List Node → List Item
items_in nodes = flat_map items_at nodes

-- two texts of equal attributes
abbrev pub Join : Node → Node → Type 0
Join (Run text) (Run next) = text.attributes ≡ next.attributes
Join (Run text) (Element head children) = ⊥
Join (Element head children) node = ⊥

-- a node does not join the one that follows
abbrev pub IsApart : Node → List Node → Type 0
IsApart node [] = Unit {0}
IsApart node (next ∷ nodes) = ¬ Join node next

-- no text is empty, and no two texts of equal attributes stand next to each other
abbrev pub IsNormal : List Node → Type 0
IsNormal [] = Unit {0}
IsNormal (node ∷ nodes) = (0 < length (items_at node)) × IsApart node nodes × IsNormal nodes
