-- Layers and rows for the worked examples. The names are those of one letter: `b` for bold, `i` for italic, `a` for a link.
use Rattle.std.specs.Prelude.{ℕ, ◌+◌, pos, List, [], ◌∷◌, Option, Some, None}
use Rattle.view_definitions.specs.Node.{Kind, container, ui, ViewNode, element, none, nodes_of}
use Rattle.view_definitions.specs.Layer.{Layer}
use Rattle.view_definitions.specs.Row.{leaf, item, character, caret, Entry}

-- a layer of this letter, with priority 10 and no id
abbrev pub letter_layer : ℕ → Layer
letter_layer letter = record { name = letter ∷ []; attrs = []; priority = pos 10; id = None }

-- the layer `b`
abbrev pub bold : Layer
bold = letter_layer 98

-- the layer `i`
abbrev pub italic : Layer
italic = letter_layer 105

-- a link to `x`
abbrev pub link : Layer
link = record (letter_layer 97) { attrs = ((104 ∷ 114 ∷ 101 ∷ 102 ∷ []), (120 ∷ [])) ∷ [] }

-- a marker's `m`, with the id `1` or `2`
abbrev pub mark : ℕ → Layer
mark digit = record (letter_layer 109) { id = Some ((48 + digit) ∷ []) }

-- a character in these layers
abbrev pub letter : ℕ → List Layer → Entry
letter scalar layers = record { content = character scalar; layers = layers }

-- the caret in these layers
abbrev pub caret_in : List Layer → Entry
caret_in layers = record { content = caret; layers = layers }

-- an element of this kind and name, without a number and children
abbrev pub bare_element : Kind → ℕ → ViewNode
bare_element kind name = element (record { kind = kind; name = name ∷ []; attributes = []; number = None; changes = 0 }) none

-- a marker's leaf `l`, and an inline object `o` in these layers
abbrev pub a_leaf : Entry
a_leaf = record { content = leaf (bare_element ui 108); layers = [] }

-- an inline object `o` in these layers
abbrev pub an_object : List Layer → Entry
an_object layers = record { content = item (bare_element container 111); layers = layers }

-- a container `p` with this number and count around these nodes
abbrev pub paragraph : Option ℕ → ℕ → List ViewNode → ViewNode
paragraph number changes nodes =
    element (record { kind = container; name = 112 ∷ []; attributes = []; number = number; changes = changes }) (nodes_of nodes)
