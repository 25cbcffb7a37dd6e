-- Changes of a node and of a view.
use Rattle.std.specs.Prelude.{◌≡◌, ℕ, ◌<◌, IsSomeAnd, List, [], ◌∷◌, length, nat_le, if◌then◌else◌, Option, Some, None, option_map, option_and_then, slice_get}
use Rattle.std.specs.Prelude.{insert, remove}
use Rattle.view_definitions.specs.Node.{ViewNode, text, element, list_of, nodes_of}
use Rattle.view_definitions.specs.Layer.{Layer, layer_of}
use Rattle.view_definitions.specs.Place.{counting, list_at, changed}

-- the node is an element
abbrev pub IsElement : ViewNode → Type 0
IsElement (text scalars) = ⊥
IsElement (element head children) = Unit {0}

-- the layer that a node is: None where it is no attribute element, or has a number
abbrev pub node_layer : ViewNode → Option Layer
node_layer (text scalars) = None
node_layer (element head children) = layer_of head

-- the text that a node is: None where it is an element
abbrev pub node_text : ViewNode → Option (List ℕ)
node_text (text scalars) = Some scalars
node_text (element head children) = None

-- an element with these children in place of its own, which it counts as a change, if it has a number; a text stays
abbrev pub with_children : List ViewNode → ViewNode → ViewNode
with_children new (text scalars) = text scalars
with_children new (element head children) = element (counting head) (nodes_of new)

-- the children of an element, and no nodes for a text
abbrev pub inner_of : ViewNode → List ViewNode
inner_of (text scalars) = []
inner_of (element head children) = list_of children

-- a view: its own list of nodes, and how many numbers were drawn. These are the numbers below that many
pub record View : Type 0 where
  pub nodes : List ViewNode
  pub drawn : ℕ

-- whether a view has drawn a number: it draws them from 0 on
abbrev pub IsDrawn : View → ℕ → Type 0
IsDrawn view number = number < view.drawn

-- the number of a node: None where it is a text, or has none
abbrev pub number_of : ViewNode → Option ℕ
number_of (text scalars) = None
number_of (element head children) = head.number

-- whether a node has a number that a view had not drawn before, and has drawn now
abbrev pub IsNewlyNumbered : View → View → ViewNode → Type 0
IsNewlyNumbered before now node = IsSomeAnd (number_of node) (λ number. (IsDrawn before number → ⊥) × IsDrawn now number)

-- a list with one node more at an index: None where the index is above its length
abbrev pub inserted : ℕ → ViewNode → List ViewNode → Option (List ViewNode)
inserted index node nodes = if nat_le index (length nodes) then Some (insert nodes index node) else None

-- the nodes with this one at an index of the list at a path: None where there is no such place
abbrev pub placed : List ℕ → ℕ → ViewNode → List ViewNode → Option (List ViewNode)
placed path index node nodes = option_and_then (λ list. option_map (λ new. changed path new nodes) (inserted index node list)) (list_at path nodes)

-- a list without the node at an index, and that node: None where none stands there
abbrev pub removed : ℕ → List ViewNode → Option (List ViewNode × ViewNode)
removed index nodes = option_map (λ node. (remove nodes index, node)) (slice_get nodes index)

-- the nodes without the one at an index of the list at a path, and that node: None where none stands there
abbrev pub taken_out : List ℕ → ℕ → List ViewNode → Option (List ViewNode × ViewNode)
taken_out path index nodes =
    option_and_then (λ list. option_map (λ made. (changed path made.0 nodes, made.1)) (removed index list)) (list_at path nodes)

-- the nodes without those of the list at a path: None where no element stands there
abbrev pub emptied : List ℕ → List ViewNode → Option (List ViewNode)
emptied path nodes = option_map (λ list. changed path [] nodes) (list_at path nodes)

-- these nodes in the list at a path: None where the list has nodes, or no element stands there
abbrev pub filled_list : List ViewNode → List ViewNode → Option (List ViewNode)
filled_list new [] = Some new
filled_list new (node ∷ nodes) = None

-- the nodes with these ones in the list at a path: None where it has nodes, or no element stands there
abbrev pub filled : List ℕ → List ViewNode → List ViewNode → Option (List ViewNode)
filled path new nodes = option_and_then (λ list. option_map (λ made. changed path made nodes) (filled_list new list)) (list_at path nodes)

-- an element without a number
abbrev pub IsUnnumbered : ViewNode → Type 0
IsUnnumbered (text scalars) = ⊥
IsUnnumbered (element head children) = head.number ≡ None

-- an element with this number, which has counted no changes; a text stays
abbrev pub numbered : ℕ → ViewNode → ViewNode
numbered number (text scalars) = text scalars
numbered number (element head children) = element (record head { number = Some number; changes = 0 }) children
