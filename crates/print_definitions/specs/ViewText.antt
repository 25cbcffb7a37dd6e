-- The printed view: elements as tags with their attributes in quotes, and texts. A mark between nodes is `[` or `]`, one in a text `{` or
-- `}`.
use Rattle.std.specs.Prelude.{ℕ, ◌+◌, List, [], ◌∷◌, ◌++◌, length, Option, codes}
use Rattle.std.specs.List.{flat_map}
use Rattle.view_definitions.specs.Node.{ViewNode, ViewNodes, text, element, none, more, ViewAttributes}
use Rattle.print_definitions.specs.Marks.{Ends, wanted, inside, outer_marks, inner_marks, marked}
use Rattle.print_definitions.specs.Values.{in_quotes, open_tag, close_tag}

-- keys with their texts, a blank before each key
abbrev pub view_attributes_text : ViewAttributes → List ℕ
view_attributes_text attributes = flat_map (λ entry. codes " " ++ (entry.0 ++ (codes "=" ++ in_quotes entry.1))) attributes

-- a text, with the marks before each character and behind the last
abbrev pub scalars_text : Ends → List ℕ → List ℕ
scalars_text ends scalars = marked (inner_marks ends) 0 scalars ++ inner_marks ends (length scalars)

abbrev mutual
  -- a text, or an element as its tags with its children between them
  pub node_text : Ends → ViewNode → List ℕ
  node_text ends (text scalars) = scalars_text ends scalars
  node_text ends (element head children) = open_tag head.name (view_attributes_text head.attributes)
      ++ (inner_nodes_text ends 0 children ++ close_tag head.name)

  -- the nodes in an element from an index on, with the marks before each and behind the last
  pub inner_nodes_text : Ends → ℕ → ViewNodes → List ℕ
  inner_nodes_text ends index none = outer_marks ends index
  inner_nodes_text ends index (more node nodes) = outer_marks ends index ++ (node_text (inside index ends) node ++ inner_nodes_text ends (index + 1) nodes)

-- nodes of a list, from an index on
abbrev pub nodes_text : Ends → ℕ → List ViewNode → List ℕ
nodes_text ends index [] = outer_marks ends index
nodes_text ends index (node ∷ nodes) = outer_marks ends index ++ (node_text (inside index ends) node ++ nodes_text ends (index + 1) nodes)

-- the view: its own list of nodes
abbrev pub view_text : Option Ends → List ViewNode → List ℕ
view_text ends nodes = nodes_text (wanted ends) 0 nodes
