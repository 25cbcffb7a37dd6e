-- Cutting lists of nodes, at the node in which an entry is.
use Rattle.std.proofs.Common.{◌≡◌, ℕ, ◌+◌, ◌-◌, List, [], ◌∷◌, ◌++◌, take, drop, true, false, if◌then◌else◌, Some, None, refl, sym, ap, ◌∙◌, arith, append-nil}
use Rattle.std.specs.Prelude.{nat_le, nat_eq, is_some}
use Rattle.std.proofs.lemmas.Bool.Decides.{nat_tests}
use Rattle.view_definitions.specs.Node.{Head, ViewNode, text, element, ViewNodes, none, more, list_of, nodes_of, children_of}
use Rattle.view_definitions.specs.Layer.{Layer, layer_of, in_layer}
use Rattle.view_definitions.specs.Place.{counting}
use Rattle.view_tree.specs.Changes.{removed, node_layer, inner_of, with_children}
use Rattle.view_wrap.specs.Cut.{Parts, entries_in, entries_inner, entries_of, place_before, place_of, cut_before, cut_element, cut_node, cut_inner, cut}
use Rattle.view_wrap.proofs.Meeting.{none_first, some_first, uncounted_layer}

-- behind the nodes that stand whole before an entry, it is cut in the rest
at_place : (at : ℕ) (nodes : List ViewNode) (rest : Parts) → rest ≡ cut (place_of at nodes).1 (drop (place_of at nodes).0 nodes)
    → cut at nodes ≡ (take (place_of at nodes).0 nodes ++ rest.0, rest.1)
at_place at [] rest r = sym r
at_place at (node ∷ nodes) rest r =
    elim (nat_le (entries_in node) at) as (λ b.
    nat_le (entries_in node) at ≡ b
    → rest ≡ cut (place_before b at (place_of (at - entries_in node) nodes)).1
    (drop (place_before b at (place_of (at - entries_in node) nodes)).0 (node ∷ nodes))
    → cut_before b (nat_eq at 0) node nodes (cut_node at node) (cut (at - entries_in node) nodes)
    ≡ (take (place_before b at (place_of (at - entries_in node) nodes)).0 (node ∷ nodes) ++ rest.0, rest.1)) [
      | true ↦ λ e q. ap (λ (parts : Parts). (node ∷ parts.0, parts.1)) (at_place (at - entries_in node) nodes rest q)
      | false ↦ λ e q. ap (λ b. cut_before b (nat_eq at 0) node nodes (cut_node at node) (cut (at - entries_in node) nodes)) (sym e) ∙ sym q
    ] refl r

-- the node at the place goes on behind it
place_within : (at : ℕ) (nodes : List ViewNode) (node : ViewNode) (rest : List ViewNode) → drop (place_of at nodes).0 nodes ≡ node ∷ rest
    → nat_le (entries_in node) (place_of at nodes).1 ≡ false
place_within at [] node rest d = cc
place_within at (first ∷ nodes) node rest d =
    elim (nat_le (entries_in first) at) as (λ b.
    nat_le (entries_in first) at ≡ b
    → drop (place_before b at (place_of (at - entries_in first) nodes)).0 (first ∷ nodes) ≡ node ∷ rest
    → nat_le (entries_in node) (place_before b at (place_of (at - entries_in first) nodes)).1 ≡ false) [
      | true ↦ λ e q. place_within (at - entries_in first) nodes node rest q
      | false ↦ λ e q. let same : first ≡ node = cc in ap (λ n. nat_le (entries_in n) at) (sym same) ∙ e
    ] refl d

zero_is : (n : ℕ) → n ≡ 0 → nat_eq n 0 ≡ true
zero_is n e = grind (arith, nat_tests)

not_zero : (n : ℕ) → (n ≡ 0 → ⊥) → nat_eq n 0 ≡ false
not_zero n e = grind (arith, nat_tests)

-- no entry stands before the place in what is behind the whole nodes
cut_even : (at : ℕ) (nodes behind : List ViewNode) → (place_of at nodes).1 ≡ 0 → drop (place_of at nodes).0 nodes ≡ behind
    → cut (place_of at nodes).1 behind ≡ ([], behind)
cut_even at nodes [] z d = refl
cut_even at nodes (node ∷ rest) z d =
    λ i. cut_before (place_within at nodes node rest d i) (zero_is (place_of at nodes).1 z i) node rest (cut_node (place_of at nodes).1 node)
    (cut ((place_of at nodes).1 - entries_in node) rest)

cut_at : (at : ℕ) (nodes behind : List ViewNode) (parts : Parts) → drop (place_of at nodes).0 nodes ≡ behind → cut (place_of at nodes).1 behind ≡ parts
    → cut at nodes ≡ (take (place_of at nodes).0 nodes ++ parts.0, parts.1)
cut_at at nodes behind parts d e = at_place at nodes parts (sym (ap (cut (place_of at nodes).1) d ∙ e))

module _ (at index inside : ℕ) (nodes front behind : List ViewNode) (i : index ≡ (place_of at nodes).0) (j : inside ≡ (place_of at nodes).1) (f : front
    ≡ take index nodes) (b : behind ≡ drop index nodes) where
  behind_is : drop (place_of at nodes).0 nodes ≡ behind
  behind_is = sym (b ∙ ap (λ k. drop k nodes) i)

  front_is : front ≡ take (place_of at nodes).0 nodes
  front_is = f ∙ ap (λ k. take k nodes) i

  even : inside ≡ 0 → cut at nodes ≡ (take (place_of at nodes).0 nodes ++ [], behind)
  even z = cut_at at nodes behind ([], behind) behind_is (cut_even at nodes behind (sym j ∙ z) behind_is)

  pub even_front : inside ≡ 0 → front ≡ (cut at nodes).0
  even_front z = front_is ∙ sym (append-nil _) ∙ ap (λ (parts : Parts). parts.0) (sym (even z))

  pub even_back : inside ≡ 0 → behind ≡ (cut at nodes).1
  even_back z = ap (λ (parts : Parts). parts.1) (sym (even z))

  whole : removed 0 behind ≡ None → cut at nodes ≡ (take (place_of at nodes).0 nodes ++ [], [])
  whole r = cut_at at nodes [] ([], []) (behind_is ∙ none_first behind r) refl

  pub whole_front : removed 0 behind ≡ None → front ≡ (cut at nodes).0
  whole_front r = front_is ∙ sym (append-nil _) ∙ ap (λ (parts : Parts). parts.0) (sym (whole r))

  pub whole_back : (left : List ViewNode) → removed 0 behind ≡ None → left ≡ behind → left ≡ (cut at nodes).1
  whole_back left r l = l ∙ none_first behind r ∙ ap (λ (parts : Parts). parts.1) (sym (whole r))

  module _ (node : ViewNode) (rest : List ViewNode) (r : removed 0 behind ≡ Some (rest, node)) (n : inside ≡ 0 → ⊥) where
    within : cut (place_of at nodes).1 (node ∷ rest) ≡ ((cut_node inside node).0, (cut_node inside node).1 ++ rest)
    within =
        (λ k. cut_before (place_within at nodes node rest (behind_is ∙ some_first behind rest node r) k)
        ((ap (λ m. nat_eq m 0) (sym j) ∙ not_zero inside n) k) node rest (cut_node (sym j k) node) (cut ((place_of at nodes).1 - entries_in node) rest))

    cut_inside : cut at nodes ≡ (take (place_of at nodes).0 nodes ++ (cut_node inside node).0, (cut_node inside node).1 ++ rest)
    cut_inside = cut_at at nodes (node ∷ rest) _ (behind_is ∙ some_first behind rest node r) within

    pub inside_front : (made : List ViewNode) → made ≡ front ++ (cut_node inside node).0 → made ≡ (cut at nodes).0
    inside_front made m = m ∙ ap (λ nodes. nodes ++ (cut_node inside node).0) front_is ∙ ap (λ (parts : Parts). parts.0) (sym cut_inside)

    pub inside_back : (halves made : List ViewNode) → halves ≡ (cut_node inside node).1 → made ≡ halves ++ rest → made ≡ (cut at nodes).1
    inside_back halves made h m = m ∙ ap (λ nodes. nodes ++ rest) h ∙ ap (λ (parts : Parts). parts.1) (sym cut_inside)

    -- nothing of the node is behind
    pub none_back : [] ≡ (cut_node inside node).1 → rest ≡ (cut at nodes).1
    none_back h = inside_back [] rest h refl

-- the parts of an attribute element
cut_inner-is : (at : ℕ) (nodes : ViewNodes) → cut_inner at nodes ≡ cut at (list_of nodes)
cut_inner-is at none = refl
cut_inner-is at (more node nodes) =
    ap (cut_before (nat_le (entries_in node) at) (nat_eq at 0) node (list_of nodes) (cut_node at node)) (cut_inner-is (at - entries_in node) nodes)

pub cut_layer : (at : ℕ) (layer : Layer) (head : Head) (children : ViewNodes) → layer_of head ≡ Some layer → cut_node at (element head children)
    ≡ (element head (nodes_of (cut at (list_of children)).0) ∷ [], in_layer layer (cut at (list_of children)).1 ∷ [])
cut_layer at layer head children e =
    (λ i. cut_element (e i) head children (cut_inner-is at children i))

pub layer_front : (at : ℕ) (layer : Layer) (node emptied whole : ViewNode) (children kept front made : List ViewNode) → node_layer node ≡ Some layer
    → children ≡ inner_of node → emptied ≡ with_children [] node → kept ≡ (cut at children).0 → whole ≡ with_children kept emptied
    → made ≡ front ++ whole ∷ [] → made ≡ front ++ (cut_node at node).0
layer_front at layer (text scalars) emptied whole children kept front made l c e k w m = cc
layer_front at layer (element head kids) emptied whole children kept front made l c e k w m =
    let same : counting head ≡ head = uncounted_layer head layer l in
    m ∙ ap (λ nodes. front ++ nodes)
    ((λ i. (w ∙ ap (with_children kept) e) i ∷ [])
    ∙ (λ i. element ((ap counting same ∙ same) i) (nodes_of ((k ∙ ap (λ nodes. (cut at nodes).0) c) i)) ∷ [])
    ∙ ap (λ (parts : Parts). parts.0) (sym (cut_layer at layer head kids l)))

pub layer_rest : (at : ℕ) (layer : Layer) (node made : ViewNode) (children rest : List ViewNode) → node_layer node ≡ Some layer
    → children ≡ inner_of node → rest ≡ (cut at children).1 → made ≡ in_layer layer rest → made ∷ [] ≡ (cut_node at node).1
layer_rest at layer (text scalars) made children rest l c k m = cc
layer_rest at layer (element head kids) made children rest l c k m =
    (λ i. (m ∙ ap (in_layer layer) (k ∙ ap (λ nodes. (cut at nodes).1) c)) i ∷ [])
    ∙ ap (λ (parts : Parts). parts.1) (sym (cut_layer at layer head kids l))

pub entries_inner-is : (nodes : ViewNodes) → entries_inner nodes ≡ entries_of (list_of nodes)
entries_inner-is none = refl
entries_inner-is (more node nodes) = ap (λ n. entries_in node + n) (entries_inner-is nodes)

-- an attribute element stands for the entries of its children
pub layer_entries : (node : ViewNode) (children : List ViewNode) → is_some (node_layer node) ≡ true → Some children ≡ children_of node
    → entries_in node ≡ entries_of children
layer_entries (text scalars) children l c = cc
layer_entries (element head kids) children l c =
    let same : children ≡ list_of kids = cc in
    ap (λ b. if b then entries_inner kids else 1) l ∙ entries_inner-is kids ∙ ap entries_of (sym same)
