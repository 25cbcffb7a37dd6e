-- What a view is made of: a list of nodes, each a text or an element. (After the view's nodes of CKEditor 5.)
use Rattle.std.specs.Prelude.{ℕ, ◌+◌, max, ℤ, List, [], ◌∷◌, map, Option, Some, None}

-- keys with their texts, in the order of the keys' bytes
abbrev pub ViewAttributes : Type 0
ViewAttributes = List (List ℕ × List ℕ)

-- a container; an attribute element with its priority and, if it has one, its id; an element that never has children; or an element
-- that shows no item of the model
pub data Kind : Type 0 where
  container : Kind
  attribute : ℤ → Option (List ℕ) → Kind
  empty : Kind
  ui : Kind

-- what an element is, but for its children: its number is there where one was given, and the changes count those of its list since
pub record Head : Type 0 where
  pub kind : Kind
  pub name : List ℕ
  pub attributes : ViewAttributes
  pub number : Option ℕ
  pub changes : ℕ

mutual
  -- a text by its Unicode scalar values, or an element
  pub data ViewNode : Type 0 where
    text : List ℕ → ViewNode
    element : Head → ViewNodes → ViewNode

  -- the children of an element
  pub data ViewNodes : Type 0 where
    none : ViewNodes
    more : ViewNode → ViewNodes → ViewNodes

-- the children as a list
abbrev pub list_of : ViewNodes → List ViewNode
list_of none = []
list_of (more node nodes) = node ∷ list_of nodes

-- a list as children
abbrev pub nodes_of : List ViewNode → ViewNodes
nodes_of [] = none
nodes_of (node ∷ nodes) = more node (nodes_of nodes)

-- the children of an element: None for a text
abbrev pub children_of : ViewNode → Option (List ViewNode)
children_of (text scalars) = None
children_of (element head children) = Some (list_of children)

-- the same element without a number and without a count
abbrev pub plain_head : Head → Head
plain_head head = record head { number = None; changes = 0 }

abbrev mutual
  -- the same node without the numbers and counts in it
  pub plain_node : ViewNode → ViewNode
  plain_node (text scalars) = text scalars
  plain_node (element head children) = element (plain_head head) (plain_nodes children)

  -- the same nodes without the numbers and counts in them
  pub plain_nodes : ViewNodes → ViewNodes
  plain_nodes none = none
  plain_nodes (more node nodes) = more (plain_node node) (plain_nodes nodes)

-- the content of a list of nodes: two views are equal where their contents are, whatever their numbers and counts
abbrev pub content : List ViewNode → List ViewNode
content nodes = map plain_node nodes

abbrev mutual
  -- the same node without the counts of changes in it
  pub uncounted_node : ViewNode → ViewNode
  uncounted_node (text scalars) = text scalars
  uncounted_node (element head children) = element (record head { changes = 0 }) (uncounted_nodes children)

  -- the same nodes without the counts in them
  pub uncounted_nodes : ViewNodes → ViewNodes
  uncounted_nodes none = none
  uncounted_nodes (more node nodes) = more (uncounted_node node) (uncounted_nodes nodes)

-- a list of nodes without the counts of changes: its content and its numbers
abbrev pub uncounted : List ViewNode → List ViewNode
uncounted nodes = map uncounted_node nodes

abbrev mutual
  -- how many levels of nodes there are from a node down
  pub node_depth : ViewNode → ℕ
  node_depth (text scalars) = 1
  node_depth (element head children) = 1 + inner_depth children

  -- from the deepest of some children down
  pub inner_depth : ViewNodes → ℕ
  inner_depth none = 0
  inner_depth (more node nodes) = max (node_depth node) (inner_depth nodes)

-- the depth of the deepest node of a list, 0 for the empty list
abbrev pub depth_of : List ViewNode → ℕ
depth_of [] = 0
depth_of (node ∷ nodes) = max (node_depth node) (depth_of nodes)
