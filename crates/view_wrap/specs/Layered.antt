-- Nodes with one layer more or less.
use Rattle.std.specs.Prelude.{List, [], ◌∷◌, if◌then◌else◌, Option, Some, None, option_map}
use Rattle.std.specs.declared.cmp.Ordering.{Ordering}
use Rattle.view_definitions.specs.Node.{Head, ViewNode, ViewNodes, text, element, none, more, nodes_of}
use Rattle.view_definitions.specs.Layer.{Layer, layer_cmp, same_layer, layer_of, in_layer}
use Rattle.view_definitions.specs.Row.{is_leaf_kind, join}
use Rattle.view_definitions.specs.Change.{by_order}
use Rattle.view_tree.specs.Changes.{node_layer}

-- an element in a layer: one of a layer further out has it inside, one of this layer stays, and so does a leaf
abbrev pub wrapped_element : Layer → Option Layer → Head → ViewNodes → List ViewNode → ViewNode
wrapped_element layer None head children inner =
    if is_leaf_kind head.kind then element head children else in_layer layer (element head children ∷ [])
wrapped_element layer (Some other) head children inner =
    by_order (layer_cmp other layer) (element head (nodes_of inner)) (element head children) (in_layer layer (element head children ∷ []))

abbrev mutual
  -- a node with a layer around what is in it
  pub wrapped_node : Layer → ViewNode → ViewNode
  wrapped_node layer (text scalars) = in_layer layer (text scalars ∷ [])
  wrapped_node layer (element head children) = wrapped_element layer (layer_of head) head children (wrapped_inner layer children)

  -- nodes as an element has them, each so
  pub wrapped_inner : Layer → ViewNodes → List ViewNode
  wrapped_inner layer none = []
  wrapped_inner layer (more node nodes) = join (wrapped_node layer node ∷ []) (wrapped_inner layer nodes)

-- nodes with a layer at its place among theirs, neighbours joined
abbrev pub wrapped : Layer → List ViewNode → List ViewNode
wrapped layer [] = []
wrapped layer (node ∷ nodes) = join (wrapped_node layer node ∷ []) (wrapped layer nodes)

-- an element without a layer: one of this layer gives its children
abbrev pub unwrapped_element : Layer → Option Layer → Head → ViewNodes → List ViewNode → List ViewNode
unwrapped_element layer None head children inner = element head children ∷ []
unwrapped_element layer (Some other) head children inner = if same_layer layer other then inner else element head (nodes_of inner) ∷ []

abbrev mutual
  -- a node without the layer
  pub unwrapped_node : Layer → ViewNode → List ViewNode
  unwrapped_node layer (text scalars) = text scalars ∷ []
  unwrapped_node layer (element head children) = unwrapped_element layer (layer_of head) head children (unwrapped_inner layer children)

  -- nodes as an element has them, each so
  pub unwrapped_inner : Layer → ViewNodes → List ViewNode
  unwrapped_inner layer none = []
  unwrapped_inner layer (more node nodes) = join (unwrapped_node layer node) (unwrapped_inner layer nodes)

-- nodes without a layer, neighbours joined
abbrev pub unwrapped : Layer → List ViewNode → List ViewNode
unwrapped layer [] = []
unwrapped layer (node ∷ nodes) = join (unwrapped_node layer node) (unwrapped layer nodes)

-- how the layer that a node is compares to this one: None where it is none
abbrev pub order_in : Layer → ViewNode → Option Ordering
order_in layer node = option_map (λ own. layer_cmp own layer) (node_layer node)
