-- Where nodes stand. A path is a list of child indices, which leads from the view's own list of nodes to an element or a text; the empty
-- path stands for that list itself.
use Rattle.std.specs.Prelude.{ℕ, ◌+◌, ◌-◌, ◌^◌, min, List, [], ◌∷◌, ◌++◌, Bool, false, ◌||◌, nat_eq, is_some, if◌then◌else◌, Option, Some, None}
use Rattle.std.specs.Prelude.{option_and_then, option_to_list, slice_get, slice_set}
use Rattle.std.specs.Option.{option_eq, option_or, option_map_or}
use Rattle.view_definitions.specs.Node.{Head, ViewNode, ViewNodes, text, element, none, more, list_of, nodes_of, children_of}

-- the node at a path: None where none stands there, and for the empty path
abbrev pub node_at : List ℕ → List ViewNode → Option ViewNode
node_at [] nodes = None
node_at (index ∷ []) nodes = slice_get nodes index
node_at (index ∷ next ∷ path) nodes = option_and_then (λ node. option_and_then (node_at (next ∷ path)) (children_of node)) (slice_get nodes index)

-- the list of nodes at a path: None where no element stands there
abbrev pub list_at : List ℕ → List ViewNode → Option (List ViewNode)
list_at [] nodes = Some nodes
list_at (index ∷ path) nodes = option_and_then (λ node. option_and_then (list_at path) (children_of node)) (slice_get nodes index)

-- the nodes with this change of the one at an index, if it is there
abbrev pub at_index : ℕ → (ViewNode → ViewNode) → List ViewNode → List ViewNode
at_index index change nodes = option_map_or (λ node. slice_set nodes index (change node)) (slice_get nodes index) nodes

-- an element with this change of its children; a text stays
abbrev pub with_inner : (List ViewNode → List ViewNode) → ViewNode → ViewNode
with_inner change (text scalars) = text scalars
with_inner change (element head children) = element head (nodes_of (change (list_of children)))

-- the nodes with this list at a path, where an element stands there
abbrev pub put_at : List ℕ → List ViewNode → List ViewNode → List ViewNode
put_at [] new nodes = new
put_at (index ∷ path) new nodes = at_index index (with_inner (put_at path new)) nodes

-- what is found in an element's children, else its own number; None for a text
abbrev pub nearest_in : (List ViewNode → Option ℕ) → ViewNode → Option ℕ
nearest_in below (text scalars) = None
nearest_in below (element head children) = option_or (below (list_of children)) head.number

-- the number of the innermost element with a number on a path: None where none has one
abbrev pub nearest : List ℕ → List ViewNode → Option ℕ
nearest [] nodes = None
nearest (index ∷ path) nodes = option_and_then (nearest_in (nearest path)) (slice_get nodes index)

-- whether an element has a number, or this holds of its children
abbrev pub numbered_or : (List ViewNode → Bool) → ViewNode → Bool
numbered_or below (text scalars) = false
numbered_or below (element head children) = below (list_of children) || is_some head.number

-- whether an element on a path has a number
abbrev pub numbered_on : List ℕ → List ViewNode → Bool
numbered_on [] nodes = false
numbered_on (index ∷ path) nodes = option_map_or (numbered_or (numbered_on path)) (slice_get nodes index) false

-- one change more, but not above the greatest count
abbrev pub one_more : ℕ → ℕ
one_more changes = min (changes + 1) (2 ^ 64 - 1)

-- an element that counts a change of a list that belongs to it, if it has a number
abbrev pub counting : Head → Head
counting head = if is_some head.number then record head { changes = one_more head.changes } else head

-- an element in whose children, or else at itself, a change is counted; a text stays
abbrev pub counted_in : (List ViewNode → Bool) → (List ViewNode → List ViewNode) → ViewNode → ViewNode
counted_in below change (text scalars) = text scalars
counted_in below change (element head children) =
    element (if below (list_of children) then head else counting head) (nodes_of (change (list_of children)))

-- the nodes where the nearest element with a number on the path has counted a change of the list there
abbrev pub counted : List ℕ → List ViewNode → List ViewNode
counted [] nodes = nodes
counted (index ∷ path) nodes = at_index index (counted_in (numbered_on path) (counted path)) nodes

-- the nodes after a change that made this of the list at a path
abbrev pub changed : List ℕ → List ViewNode → List ViewNode → List ViewNode
changed path new nodes = counted path (put_at path new nodes)

abbrev mutual
  -- the count of changes of the first element with this number, in document order: None where none has it
  pub changes_in : ℕ → ViewNode → Option ℕ
  changes_in number (text scalars) = None
  changes_in number (element head children) =
      if option_eq nat_eq head.number (Some number) then Some head.changes else changes_inner number children

  -- the count of the first one among some children
  pub changes_inner : ℕ → ViewNodes → Option ℕ
  changes_inner number none = None
  changes_inner number (more node nodes) = option_or (changes_in number node) (changes_inner number nodes)

-- the count of changes of the first element with this number among nodes, in document order: None where none has it
abbrev pub changes_of : ℕ → List ViewNode → Option ℕ
changes_of number [] = None
changes_of number (node ∷ nodes) = option_or (changes_in number node) (changes_of number nodes)

abbrev mutual
  -- the numbers of the elements, in document order
  pub numbers_in : ViewNode → List ℕ
  numbers_in (text scalars) = []
  numbers_in (element head children) = option_to_list head.number ++ numbers_inner children

  -- the numbers among some children
  pub numbers_inner : ViewNodes → List ℕ
  numbers_inner none = []
  numbers_inner (more node nodes) = numbers_in node ++ numbers_inner nodes

-- the numbers of the elements among nodes, in document order
abbrev pub numbers_of : List ViewNode → List ℕ
numbers_of [] = []
numbers_of (node ∷ nodes) = numbers_in node ++ numbers_of nodes
