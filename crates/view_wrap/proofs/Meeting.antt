-- Lists joined by their last and their first node.
use Rattle.std.proofs.Common.{◌≡◌, ◌↔◌, ℕ, ◌<◌, ◌≤◌, zero, suc, List, [], ◌∷◌, ◌++◌, Bool, true, false, ◌&&◌, true≢false, if◌then◌else◌, Option, Some, None}
use Rattle.std.proofs.Common.{is_some, IsTrue, length, get_or, drop, refl, sym, ap, ◌∙◌, subst, append_assoc, arith}
use Rattle.std.specs.Prelude.{max, unwrap_or}
use Rattle.view_definitions.specs.Node.{Head, ViewNode, ViewNodes, text, element, none, more, list_of, nodes_of, children_of, node_depth, inner_depth, depth_of}
use Rattle.view_definitions.specs.Layer.{Layer, same_layer, layer_of, layer_of_kind}
use Rattle.view_definitions.specs.Place.{counting, one_more}
use Rattle.view_definitions.specs.Row.{both_layers, joins, join_node, join}
use Rattle.view_definitions.proofs.Layers.{same_layer-true, same_layer-itself}
use Rattle.view_definitions.proofs.Joins.{join-none, join_inner-is, join_node-joins, join_node-apart}
use Rattle.view_tree.specs.Changes.{node_layer, node_text, inner_of, with_children, removed}

told : (one : Bool) (a b : Layer) → (IsTrue one ↔ (a ≡ b)) → one ≡ same_layer a b
told true a b h = sym (same_layer-itself a) ∙ ap (same_layer a) (h.0 refl)
told false a b h =
    elim (same_layer a b) as (λ t. same_layer a b ≡ t → false ≡ t) [
      | true ↦ λ e. h.1 (same_layer-true a b e)
      | false ↦ λ e. refl
    ] refl

-- whether two layers that were read are equal
pub both_told : (one : Bool) (x y : Option Layer) (a b : Layer) → (IsTrue one ↔ (a ≡ b)) → Some a ≡ x → Some b ≡ y → one ≡ both_layers x y
both_told one x y a b h p q = told one a b h ∙ (λ i. both_layers (p i) (q i))

-- a list without a first node is empty
pub none_first : (nodes : List ViewNode) → removed 0 nodes ≡ None → nodes ≡ []
none_first [] e = refl
none_first (node ∷ nodes) e = cc

-- a list of which the first node was taken out
pub some_first : (nodes rest : List ViewNode) (node : ViewNode) → removed 0 nodes ≡ Some (rest, node) → nodes ≡ node ∷ rest
some_first [] rest node e = cc
some_first (first ∷ nodes) rest node e =
    let r : nodes ≡ rest = ap (λ (taken : Option (List ViewNode × ViewNode)). (unwrap_or taken (rest, node)).0) e in
    let n : first ≡ node = ap (λ (taken : Option (List ViewNode × ViewNode)). (unwrap_or taken (rest, node)).1) e in
    λ i. n i ∷ r i

join_node-front : (node first : ViewNode) (rest : List ViewNode) → join_node node (first ∷ rest) ≡ join_node node (first ∷ []) ++ rest
join_node-front (text scalars) (text more_scalars) rest = refl
join_node-front (text scalars) (element head children) rest = refl
join_node-front (element head children) (text scalars) rest = refl
join_node-front (element head children) (element other inner) rest =
    elim (joins head other) as (λ b. joins head other ≡ b → join_node (element head children) (element other inner ∷ rest)
    ≡ join_node (element head children) (element other inner ∷ []) ++ rest) [
      | true ↦ λ j. join_node-joins head other children inner rest j ∙ ap (λ nodes. nodes ++ rest) (sym (join_node-joins head other children inner [] j))
      | false ↦ λ j. join_node-apart head other children inner rest j ∙ ap (λ nodes. nodes ++ rest) (sym (join_node-apart head other children inner [] j))
    ] refl

-- lists are joined at the last node of the left and the first of the right
join-last : (front : List ViewNode) (last first : ViewNode) (rest : List ViewNode) → join (front ++ last ∷ []) (first ∷ rest)
    ≡ (front ++ join_node last (first ∷ [])) ++ rest
join-last [] last first rest = join_node-front last first rest
join-last (node ∷ []) last first rest = ap (λ nodes. node ∷ nodes) (join-last [] last first rest)
join-last (node ∷ next ∷ front) last first rest = ap (λ nodes. node ∷ nodes) (join-last (next ∷ front) last first rest)

-- nothing is behind the left list
pub join_stops : (left right front pushed : List ViewNode) (last : ViewNode) → left ≡ front ++ last ∷ [] → removed 0 right ≡ None
    → pushed ≡ front ++ last ∷ [] → pushed ≡ join left right
join_stops left right front pushed last l r p = p ∙ sym l ∙ sym (join-none left) ∙ ap (join left) (sym (none_first right r))

-- the last and the first have met
pub join_goes : (left right front met rest made : List ViewNode) (last first : ViewNode) → left ≡ front ++ last ∷ []
    → removed 0 right ≡ Some (rest, first) → met ≡ front ++ join_node last (first ∷ []) → made ≡ met ++ rest → made ≡ join left right
join_goes left right front met rest made last first l r m e =
    e ∙ ap (λ nodes. nodes ++ rest) m ∙ sym (join-last front last first rest) ∙ (λ i. join (sym l i) (sym (some_first right rest first r) i))

-- what two nodes are that are no texts, and of no one layer
pub meet_apart : (left pushed made : List ViewNode) (last first : ViewNode) (texts one : Bool)
    → texts ≡ (is_some (node_text last) && is_some (node_text first)) → texts ≡ false → one ≡ both_layers (node_layer last) (node_layer first)
    → one ≡ false → pushed ≡ left ++ last ∷ [] → made ≡ pushed ++ first ∷ [] → made ≡ left ++ join_node last (first ∷ [])
meet_apart left pushed made (text scalars) (text more_scalars) texts one t nt o apart p m = cc
meet_apart left pushed made (text scalars) (element other inner) texts one t nt o apart p m = m ∙ ap (λ nodes. nodes ++ element other inner ∷ []) p
    ∙ append_assoc left _ _
meet_apart left pushed made (element head children) (text more_scalars) texts one t nt o apart p m = m ∙ ap (λ nodes. nodes ++ text more_scalars ∷ []) p
    ∙ append_assoc left _ _
meet_apart left pushed made (element head children) (element other inner) texts one t nt o apart p m =
    m ∙ ap (λ nodes. nodes ++ element other inner ∷ []) p ∙ append_assoc left _ _
    ∙ ap (λ nodes. left ++ nodes) (sym (join_node-apart head other children inner [] (sym o ∙ apart)))

none_behind : (a : Option Layer) → both_layers a None ≡ false
none_behind None = refl
none_behind (Some a) = refl

-- an element of a layer has no number, and counts no changes
uncounted : (head : Head) (other : Option Layer) → both_layers (layer_of head) other ≡ true → counting head ≡ head
uncounted head other b =
    elim head.number as (λ n. both_layers (layer_of_kind n head.kind head.name head.attributes) other ≡ true
    → (if is_some n then record head { changes = one_more head.changes } else head) ≡ head) [
      | Some number ↦ λ e. cc
      | None ↦ λ e. refl
    ] b

pub uncounted_layer : (head : Head) (layer : Layer) → layer_of head ≡ Some layer → counting head ≡ head
uncounted_layer head layer e =
    uncounted head (Some layer) (ap (λ own. both_layers own (Some layer)) e ∙ same_layer-itself layer)

-- two elements of one layer, with the children of both
pub layers_meet : (last first emptied made : ViewNode) (children inner joined : List ViewNode) → both_layers (node_layer last) (node_layer first) ≡ true
    → children ≡ inner_of last → emptied ≡ with_children [] last → inner ≡ inner_of first → joined ≡ join children inner
    → made ≡ with_children joined emptied → made ∷ [] ≡ join_node last (first ∷ [])
layers_meet (text scalars) first emptied made children inner joined b c e i j m = cc
layers_meet (element head kids) (text scalars) emptied made children inner joined b c e i j m = absurd (true≢false (sym b ∙ none_behind (layer_of head)))
layers_meet (element head kids) (element other others) emptied made children inner joined b c e i j m =
    let same : counting head ≡ head = uncounted head (layer_of other) b in
    ap (λ node. node ∷ [])
    (m ∙ ap (with_children joined) e
    ∙ (λ k. element ((ap counting same ∙ same) k) (nodes_of ((j ∙ (λ l. join (c l) (i l)) ∙ sym (join_inner-is kids (list_of others))) k))))
    ∙ sym (join_node-joins head other kids others [] b)

-- two texts
pub texts_meet : (last first made : ViewNode) (scalars more_scalars joined : List ℕ) → Some scalars ≡ node_text last
    → Some more_scalars ≡ node_text first → joined ≡ scalars ++ more_scalars → made ≡ text joined → made ∷ [] ≡ join_node last (first ∷ [])
texts_meet (text a) (text b) made scalars more_scalars joined p q j m =
    let one : scalars ≡ a = cc in
    let two : more_scalars ≡ b = cc in
    ap (λ node. node ∷ []) (m ∙ ap text (j ∙ (λ i. one i ++ two i)))
texts_meet (text a) (element other inner) made scalars more_scalars joined p q j m = cc
texts_meet (element head children) first made scalars more_scalars joined p q j m = cc

-- ---- depths

last_within : (front : List ViewNode) (last : ViewNode) → node_depth last ≤ depth_of (front ++ last ∷ [])
last_within [] last = omega arith
last_within (node ∷ front) last = omega (arith, last_within front last)

-- the last node of a list is no deeper than the list
pub last_depth : (left front : List ViewNode) (last : ViewNode) → left ≡ front ++ last ∷ [] → node_depth last ≤ depth_of left
last_depth left front last e = subst (λ nodes. node_depth last ≤ depth_of nodes) (sym e) (last_within front last)

depth_of-list_of : (nodes : ViewNodes) → depth_of (list_of nodes) ≡ inner_depth nodes
depth_of-list_of none = refl
depth_of-list_of (more node nodes) = ap (max (node_depth node)) (depth_of-list_of nodes)

-- the children of a node are less deep
pub children_depth : (node : ViewNode) (children : List ViewNode) → children ≡ inner_of node → depth_of children < node_depth node
children_depth (text scalars) children e = subst (λ nodes. depth_of nodes < 1) (sym e) (omega arith)
children_depth (element head kids) children e = omega (arith, ap depth_of e, depth_of-list_of kids)

read_depth : (nodes : List ViewNode) (index : ℕ) (node : ViewNode) → index < length nodes → node ≡ get_or nodes index node → node_depth node ≤ depth_of nodes
read_depth [] index node w e = absurd (omega arith)
read_depth (first ∷ nodes) zero node w e = omega (arith, ap node_depth e)
read_depth (first ∷ nodes) (suc index) node w e = omega (arith, read_depth nodes index node (omega arith) e)

-- a node of a list is no deeper than the list
pub item_depth : (items nodes : List ViewNode) (index : ℕ) (node : ViewNode) → items ≡ nodes → index < length items → node ≡ get_or items index node
    → node_depth node ≤ depth_of nodes
item_depth items nodes index node s w e = subst (λ list. node_depth node ≤ depth_of list) s (read_depth items index node w e)

drop_depth : (index : ℕ) (nodes : List ViewNode) → depth_of (drop index nodes) ≤ depth_of nodes
drop_depth zero nodes = omega arith
drop_depth (suc index) [] = omega arith
drop_depth (suc index) (node ∷ nodes) = omega (arith, drop_depth index nodes)

-- the first node behind an index is no deeper than the list
pub first_depth : (index : ℕ) (nodes behind rest : List ViewNode) (node : ViewNode) → behind ≡ drop index nodes → removed 0 behind ≡ Some (rest, node)
    → node_depth node ≤ depth_of nodes
first_depth index nodes behind rest node b r =
    let depth : depth_of (node ∷ rest) ≡ depth_of (drop index nodes) = ap depth_of (sym (some_first behind rest node r) ∙ b) in
    omega (arith, depth, drop_depth index nodes)

-- the list that an element has as children is less deep
pub list_depth : (node : ViewNode) (children : List ViewNode) → Some children ≡ children_of node → depth_of children < node_depth node
list_depth (text scalars) children e = cc
list_depth (element head kids) children e =
    let same : children ≡ list_of kids = cc in
    omega (arith, ap depth_of same, depth_of-list_of kids)
