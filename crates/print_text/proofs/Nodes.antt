-- The printed text of a node by what it shows, and how deep nodes are.
use Rattle.std.proofs.Common.{◌≡◌, ℕ, zero, suc, ◌+◌, ◌<◌, ◌≤◌, List, [], ◌∷◌, ◌++◌, length, get_or, Some, refl, sym, ap, ◌∙◌, arith}
use Rattle.view_definitions.specs.Node.{ViewNode, ViewNodes, text, element, none, more, list_of, children_of, node_depth, inner_depth, depth_of}
use Rattle.view_tree.specs.declared.node.NodeRef.{NodeRef}
use Rattle.view_tree.specs.declared.node.NodeRef.TheVariants.{Text, Element}
use Rattle.view_tree.specs.Reading.{Shows}
use Rattle.print_definitions.specs.Marks.{Ends, inside, outer_marks}
use Rattle.print_definitions.specs.Values.{open_tag, close_tag}
use Rattle.print_definitions.specs.ViewText.{view_attributes_text, scalars_text, node_text, inner_nodes_text, nodes_text}

-- children are printed as their list
inner_is : (ends : Ends) (index : ℕ) (children : ViewNodes) → inner_nodes_text ends index children ≡ nodes_text ends index (list_of children)
inner_is ends index none = refl
inner_is ends index (more node nodes) = ap (λ t. outer_marks ends index ++ (node_text (inside index ends) node ++ t)) (inner_is ends (index + 1) nodes)

-- what a node that shows this, with these children, is printed as
abbrev pub shown_text : Ends → NodeRef → List ViewNode → List ℕ
shown_text ends (Text scalars) children = scalars_text ends scalars.now
shown_text ends (Element kind name attrs number count) children = open_tag name.now (view_attributes_text attrs.now)
    ++ (nodes_text ends 0 children ++ close_tag name.now)

pub text_of_shown : (ends : Ends) (shown : NodeRef) (node : ViewNode) (list : List ViewNode) → Shows shown node → Some list ≡ children_of node
    → shown_text ends shown list ≡ node_text ends node
text_of_shown ends (Text scalars) (text own) list s e = absurd cc
text_of_shown ends (Text scalars) (element head children) list s e = absurd s
text_of_shown ends (Element kind name attrs number count) (text own) list s e = absurd s
text_of_shown ends (Element kind name attrs number count) (element head children) list s e =
    let is : list ≡ list_of children = cc in
    (λ i. open_tag (s.1 i) (view_attributes_text (s.2 i)) ++ (nodes_text ends 0 (is i) ++ close_tag (s.1 i)))
    ∙ ap (λ t. open_tag head.name (view_attributes_text head.attributes) ++ (t ++ close_tag head.name)) (sym (inner_is ends 0 children))

depth_is : (children : ViewNodes) → inner_depth children ≡ depth_of (list_of children)
depth_is none = refl
depth_is (more node nodes) = omega (arith, depth_is nodes)

-- the children of a node are not as deep
pub shallower : (node : ViewNode) (list : List ViewNode) → Some list ≡ children_of node → depth_of list < node_depth node
shallower (text own) list e = absurd cc
shallower (element head children) list e =
    let is : list ≡ list_of children = cc in
    omega (arith, ap depth_of is, depth_is children)

-- no node of a list is deeper than the list
pub no_deeper : (nodes : List ViewNode) (index : ℕ) (node : ViewNode) → index < length nodes → node ≡ get_or nodes index node → node_depth node ≤ depth_of nodes
no_deeper [] index node less is = absurd (omega arith)
no_deeper (first ∷ nodes) zero node less is = omega (arith, ap node_depth is)
no_deeper (first ∷ nodes) (suc index) node less is = omega (arith, no_deeper nodes index node (omega arith) is)
