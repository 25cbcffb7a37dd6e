-- A printed view doesn't hang on the numbers of its elements and the counts of their changes.
use Rattle.std.proofs.Common.{◌≡◌, ℕ, ◌+◌, List, [], ◌∷◌, ◌++◌, Option, Some, refl, sym, ap, ◌∙◌}
use Rattle.view_definitions.specs.Node.{ViewNode, ViewNodes, text, element, none, more, plain_node, plain_nodes, content}
use Rattle.print_definitions.specs.Marks.{Ends, wanted, inside, outer_marks}
use Rattle.print_definitions.specs.Values.{open_tag, close_tag}
use Rattle.print_definitions.specs.ViewText.{view_attributes_text, node_text, inner_nodes_text, nodes_text, view_text}

mutual
  node-plain : (ends : Ends) (node : ViewNode) → node_text ends (plain_node node) ≡ node_text ends node
  node-plain ends (text scalars) = refl
  node-plain ends (element head children) =
      ap (λ inner. open_tag head.name (view_attributes_text head.attributes) ++ (inner ++ close_tag head.name)) (inner-plain ends 0 children)

  inner-plain : (ends : Ends) (index : ℕ) (nodes : ViewNodes) → inner_nodes_text ends index (plain_nodes nodes) ≡ inner_nodes_text ends index nodes
  inner-plain ends index none = refl
  inner-plain ends index (more node nodes) =
      λ i. outer_marks ends index ++ (node-plain (inside index ends) node i ++ inner-plain ends (index + 1) nodes i)

nodes-plain : (ends : Ends) (index : ℕ) (nodes : List ViewNode) → nodes_text ends index (content nodes) ≡ nodes_text ends index nodes
nodes-plain ends index [] = refl
nodes-plain ends index (node ∷ nodes) = λ i. outer_marks ends index ++ (node-plain (inside index ends) node i ++ nodes-plain ends (index + 1) nodes i)

-- what is printed of the nodes is what is printed of their content
pub printed_content : (ends : Option Ends) (nodes shown : List ViewNode) → content nodes ≡ shown → view_text ends nodes ≡ view_text ends shown
printed_content ends nodes shown e = sym (nodes-plain (wanted ends) 0 nodes) ∙ ap (view_text ends) e

-- the marks between two places
abbrev pub between : List ℕ → List ℕ → Option Ends
between start end = Some (record { start = start; end = end })

pub printed_between : (start end first last : List ℕ) (nodes shown : List ViewNode) → start ≡ first → end ≡ last → content nodes ≡ shown
    → view_text (between start end) nodes ≡ view_text (between first last) shown
printed_between start end first last nodes shown s e c = (λ i. view_text (between (s i) (e i)) nodes) ∙ printed_content (between first last) nodes shown c
