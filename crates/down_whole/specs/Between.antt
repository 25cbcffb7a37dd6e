-- The caret between the nodes of a row before it and those behind it.
use Rattle.std.specs.Prelude.{ℕ, List, [], ◌∷◌, ◌++◌, length, Bool, true, false, Option, Some, None, is_some, option_map}
use Rattle.view_definitions.specs.Node.{ViewNode, text, element}
use Rattle.view_definitions.specs.Layer.{Layer, in_layer}
use Rattle.view_definitions.specs.Row.{both_layers}
use Rattle.view_tree.specs.Changes.{node_layer, inner_of}
use Rattle.downcast_definitions.specs.Place.{Passed, as_place}

-- whether a node is an attribute element of this layer
abbrev pub is_in : Layer → ViewNode → Bool
is_in layer node = both_layers (Some layer) (node_layer node)

-- nodes without the attribute element of a layer at one end of them, and what is in it
abbrev pub Opened : Type 0
Opened = List ViewNode × List ViewNode

-- the one or the other, as a test says
abbrev pub opened_if : Bool → List ViewNode → List ViewNode → List ViewNode → Opened
opened_if true rest inner kept = (rest, inner)
opened_if false rest inner kept = (kept, [])

-- the attribute element of the layer that the nodes end with
abbrev pub opened_last : Layer → List ViewNode → Opened
opened_last layer [] = ([], [])
opened_last layer (node ∷ []) = opened_if (is_in layer node) [] (inner_of node) (node ∷ [])
opened_last layer (node ∷ next ∷ rest) = (node ∷ (opened_last layer (next ∷ rest)).0, (opened_last layer (next ∷ rest)).1)

-- and the one that they begin with
abbrev pub opened_first : Layer → List ViewNode → Opened
opened_first layer [] = ([], [])
opened_first layer (node ∷ nodes) = opened_if (is_in layer node) nodes (inner_of node) (node ∷ nodes)

-- two texts that meet are one
abbrev pub text_before : ViewNode → List ViewNode → List ViewNode
text_before (text scalars) [] = text scalars ∷ []
text_before (text scalars) (text more_scalars ∷ nodes) = text (scalars ++ more_scalars) ∷ nodes
text_before (text scalars) (element head children ∷ nodes) = text scalars ∷ element head children ∷ nodes
text_before (element head children) nodes = element head children ∷ nodes

-- nodes behind others, where the texts that meet are one
abbrev pub with_texts_joined : List ViewNode → List ViewNode → List ViewNode
with_texts_joined [] nodes = nodes
with_texts_joined (node ∷ []) nodes = text_before node nodes
with_texts_joined (node ∷ next ∷ rest) nodes = node ∷ with_texts_joined (next ∷ rest) nodes

-- nodes without the last one
abbrev pub without_last : List ViewNode → List ViewNode
without_last [] = []
without_last (node ∷ []) = []
without_last (node ∷ next ∷ rest) = node ∷ without_last (next ∷ rest)

-- the text that nodes end with and the one that they start with, if they do
abbrev pub last_text : List ViewNode → Option (List ℕ)
last_text [] = None
last_text (text scalars ∷ []) = Some scalars
last_text (element head children ∷ []) = None
last_text (node ∷ next ∷ rest) = last_text (next ∷ rest)

-- the text that nodes begin with, if they do
abbrev pub first_text : List ViewNode → Option (List ℕ)
first_text [] = None
first_text (text scalars ∷ nodes) = Some scalars
first_text (element head children ∷ nodes) = None

-- the text that the two are together
abbrev pub text_of_both : Option (List ℕ) → Option (List ℕ) → Option ViewNode
text_of_both None other = None
text_of_both (Some one) None = None
text_of_both (Some one) (Some other) = Some (text (one ++ other))

-- the text that meets where nodes stand behind others
abbrev pub seam_text : List ViewNode → List ViewNode → Option ViewNode
seam_text nodes more_nodes = text_of_both (last_text nodes) (first_text more_nodes)

-- The nodes with the caret in these layers between them: it shares layers with what is before it and with what is behind it, and keeps apart
-- what doesn't share them with it
abbrev pub between : List ViewNode → List Layer → List ViewNode → List ViewNode
between left [] right = with_texts_joined left right
between left (layer ∷ layers) right =
    (opened_last layer left).0
    ++ (in_layer layer (between (opened_last layer left).1 layers (opened_first layer right).1) ∷ (opened_first layer right).0)

-- what stands before the end of a list: how many nodes, and the length of the last one, if that is a text
abbrev pub end_of : List ViewNode → Passed
end_of nodes = record { nodes = length nodes; in_text = option_map length (last_text nodes) }

-- where the caret is seen there
abbrev pub caret_at : List ViewNode → List Layer → List ViewNode → List ℕ
caret_at left [] right = as_place (end_of left) (is_some (first_text right))
caret_at left (layer ∷ layers) right =
    length (opened_last layer left).0 ∷ caret_at (opened_last layer left).1 layers (opened_first layer right).1
