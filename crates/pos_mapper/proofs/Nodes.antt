-- What nodes are made of, and how many items they show.
use Rattle.std.proofs.Common.{◌≡◌, ℕ, zero, suc, ◌+◌, ◌-◌, ◌^◌, ◌<◌, ◌≤◌, min, max, List, [], ◌∷◌, length, drop, Option, Some, None, option_map}
use Rattle.std.proofs.Common.{option_and_then, append_assoc, ◌++◌, refl, sym, ap, ◌∙◌, get_or, arith}
use Rattle.std.proofs.lemmas.Bool.Decides.{nat_tests}
use Rattle.view_definitions.specs.Node.{Kind, ViewNode, ViewNodes, text, element, none, more, list_of, nodes_of, children_of, node_depth, inner_depth, depth_of}
use Rattle.view_tree.specs.Changes.{node_text, number_of}
use Rattle.downcast_definitions.specs.Meant.{length_by_kind, model_length, inner_length}
use Rattle.pos_mapper.specs.Parts.{node_kind}
use Rattle.downcast_definitions.specs.Meant.{by_kind}
use Rattle.pos_mapper.specs.Reading.{Slots, Below, lengths, in_position, in_slot, in_node, in_text, read}

pub nodes_of-list_of : (nodes : ViewNodes) → nodes_of (list_of nodes) ≡ nodes
nodes_of-list_of none = refl
nodes_of-list_of (more node nodes) = ap (more node) (nodes_of-list_of nodes)

-- the length of an element is that of its children by its kind
pub element_length : (node : ViewNode) (kind : Kind) (children : List ViewNode) → Some kind ≡ node_kind node → Some children ≡ children_of node
    → model_length node ≡ length_by_kind kind (lengths children)
element_length (text scalars) kind children k c = cc
element_length (element head kids) kind children k c =
    let same : children ≡ list_of kids = cc in
    let same_kind : kind ≡ head.kind = cc in
    (λ i. length_by_kind (sym same_kind i) (inner_length (sym (nodes_of-list_of kids) i))) ∙ ap (λ list. length_by_kind kind (lengths list)) (sym same)

-- a text's is how many characters it has
pub text_length : (node : ViewNode) (scalars : List ℕ) → Some scalars ≡ node_text node → model_length node ≡ length scalars
text_length (text own) scalars e = (let same : own ≡ scalars = cc in ap length same)
text_length (element head children) scalars e = cc

-- a sum that is cut at the greatest number is as large for a position
pub small_sum : (offset length : ℕ) → in_position (offset + min length (2 ^ 64 - 1)) ≡ in_position (offset + length)
small_sum offset length = grind (arith, nat_tests)

depth_of-list_of : (nodes : ViewNodes) → depth_of (list_of nodes) ≡ inner_depth nodes
depth_of-list_of none = refl
depth_of-list_of (more node nodes) = ap (λ d. max (node_depth node) d) (depth_of-list_of nodes)

drop-all : (nodes : List ViewNode) → drop (length nodes) nodes ≡ []
drop-all [] = refl
drop-all (node ∷ nodes) = drop-all nodes

-- children are less deep than their element
pub list_depth : (node : ViewNode) (children : List ViewNode) → Some children ≡ children_of node → depth_of children < node_depth node
list_depth (text scalars) children e = cc
list_depth (element head kids) children e =
    let same : children ≡ list_of kids = cc in
    omega (arith, ap depth_of same, depth_of-list_of kids)

-- a node of a list is no deeper than the list
pub read_depth : (nodes : List ViewNode) (index : ℕ) (node : ViewNode) → index < length nodes → node ≡ get_or nodes index node
    → node_depth node ≤ depth_of nodes
read_depth [] index node w e = absurd (omega (arith, w))
read_depth (first ∷ nodes) zero node w e = omega (arith, ap node_depth e)
read_depth (first ∷ nodes) (suc index) node w e = omega (arith, read_depth nodes index node (omega (arith, w)) e)

-- a sum over all nodes
pub all_summed : (nodes : List ViewNode) (index sum most : ℕ) → index ≤ length nodes → length nodes ≤ index
    → min (sum + lengths (drop index nodes)) most ≡ min (lengths nodes) most → sum ≤ most
    → sum ≡ min (lengths nodes) most
all_summed nodes index sum most within not_below total small =
    let end : index ≡ length nodes = omega (arith, within, not_below) in
    let none : drop index nodes ≡ [] = ap (λ n. drop n nodes) end ∙ drop-all nodes in
    let zero_left : lengths (drop index nodes) ≡ 0 = ap lengths none in
    omega (arith, total, zero_left, small)

-- a place in a text
pub in_a_text : (slots : Slots) (below : Below) (depth : ℕ) (path : List ℕ) (last offset : ℕ) (node : ViewNode) (scalars : List ℕ)
    → Some scalars ≡ node_text node
    → in_node slots below depth path last offset node ≡ in_text offset (length scalars) path last
in_a_text slots below depth path last offset (text own) scalars e = (let same : own ≡ scalars = cc in ap (λ list. in_text offset (length list) path last) same)
in_a_text slots below depth path last offset (element head children) scalars e = cc

-- a place in an element, by its kind, its number and its children
pub in_element : (slots : Slots) (below : Below) (depth : ℕ) (path : List ℕ) (last offset : ℕ) (node : ViewNode) (kind : Kind) (number : Option ℕ)
    (children : List ViewNode)
    → Some kind ≡ node_kind node → number ≡ number_of node → Some children ≡ children_of node
    → in_node slots below depth path last offset node
    ≡ by_kind kind (below depth [] 0 offset children) (in_slot below depth offset children (option_and_then slots number))
in_element slots below depth path last offset (text own) kind number children k n c = cc
in_element slots below depth path last offset (element head kids) kind number children k n c =
    let same : children ≡ list_of kids = cc in
    let same_kind : kind ≡ head.kind = cc in
    λ i. by_kind (sym same_kind i) (below depth [] 0 offset (sym same i)) (in_slot below depth offset (sym same i) (option_and_then slots (sym n i)))

-- a position in an item, behind what is made
pub one_deeper : (made : List ℕ) (offset : ℕ) (inner : Option (List ℕ))
    → option_map (λ position. (made ++ offset ∷ []) ++ position) inner
    ≡ option_map (λ position. made ++ position) (option_map (λ position. offset ∷ position) inner)
one_deeper made offset None = refl
one_deeper made offset (Some position) = ap Some (append_assoc made (offset ∷ []) position)

-- without a way nothing is left behind the content
pub no_way : (slots : Slots) (depth : ℕ) (way : List ℕ) (behind offset : ℕ) (nodes : List ViewNode) (path : List ℕ) (last : ℕ) → length way ≡ 0
    → read slots depth way behind offset nodes path last ≡ read slots depth [] 0 offset nodes path last
no_way slots depth [] behind offset nodes [] last e = refl
no_way slots depth [] behind offset nodes (index ∷ path) last e = refl
no_way slots depth (step ∷ way) behind offset nodes path last e = absurd (omega (arith, e))
