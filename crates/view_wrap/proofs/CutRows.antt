-- A nested row is cut where its entries are.
use Rattle.std.proofs.Common.{◌≡◌, ℕ, ◌+◌, ◌-◌, ◌<◌, zero, suc, List, [], ◌∷◌, ◌++◌, length, take, drop, Bool, true, false, if◌then◌else◌, Option, Some, None}
use Rattle.std.proofs.Common.{is_some, refl, sym, ap, ◌∙◌, subst, arith}
use Rattle.std.specs.Prelude.{nat_le, nat_eq}
use Rattle.std.proofs.lemmas.Bool.Decides.{nat_tests}
use Rattle.view_definitions.specs.Node.{Head, ViewNode, text, element, ViewNodes, none, more, list_of, nodes_of}
use Rattle.view_definitions.specs.NodeCode.{list_of-nodes_of}
use Rattle.view_definitions.specs.Layer.{Layer, layer_of, layer_head, in_layer}
use Rattle.view_definitions.specs.Row.{Content, leaf, item, character, caret, Entry, nothing, put, shown, nest, both_layers, joins, join_node, join, is_plain}
use Rattle.view_definitions.specs.Row.{IsPlainRow}
use Rattle.view_definitions.proofs.Layers.{same_layer-itself, same_layer-true}
use Rattle.view_definitions.proofs.Joins.{join_node-apart, join-in_layer, node-stays, leaf_none, item_none, nest-cons}
use Rattle.view_wrap.specs.Cut.{Parts, entries_in, entries_inner, entries_of, cut_before, cut_element, cut_node, cut_inner, cut}
use Rattle.view_wrap.proofs.Cutting.{cut_layer, entries_inner-is}

-- ---- the cut at a first node

cut_behind : (at : ℕ) (node : ViewNode) (nodes : List ViewNode) → nat_le (entries_in node) at ≡ true → cut at (node ∷ nodes)
    ≡ (node ∷ (cut (at - entries_in node) nodes).0, (cut (at - entries_in node) nodes).1)
cut_behind at node nodes e = ap (λ b. cut_before b (nat_eq at 0) node nodes (cut_node at node) (cut (at - entries_in node) nodes)) e

cut_start : (node : ViewNode) (nodes : List ViewNode) → nat_le (entries_in node) 0 ≡ false → cut 0 (node ∷ nodes) ≡ ([], node ∷ nodes)
cut_start node nodes e = ap (λ b. cut_before b true node nodes (cut_node 0 node) (cut (0 - entries_in node) nodes)) e

not_start : (at : ℕ) → nat_eq (suc at) 0 ≡ false
not_start at = grind (arith, nat_tests)

cut_within : (at : ℕ) (node : ViewNode) (nodes : List ViewNode) → nat_le (entries_in node) (suc at) ≡ false → cut (suc at) (node ∷ nodes)
    ≡ ((cut_node (suc at) node).0, (cut_node (suc at) node).1 ++ nodes)
cut_within at node nodes e = λ i. cut_before (e i) (not_start at i) node nodes (cut_node (suc at) node) (cut (suc at - entries_in node) nodes)

not_within : (n : ℕ) → 0 < n → nat_le n 0 ≡ false
not_within n h = grind (arith, nat_tests)

one_within : (n at : ℕ) → n ≡ 1 → nat_le n (suc at) ≡ true
one_within n at h = grind (arith, nat_tests)

one_less : (n at : ℕ) → n ≡ 1 → suc at - n ≡ at
one_less n at h = omega arith

step_within : (n m at : ℕ) (b : Bool) → m ≡ suc n → nat_le n at ≡ b → nat_le m (suc at) ≡ b
step_within n m at true h e = grind (arith, nat_tests)
step_within n m at false h e = grind (arith, nat_tests)

step_less : (n m at : ℕ) → m ≡ suc n → suc at - m ≡ at - n
step_less n m at h = omega arith

one_and : (n : ℕ) → 1 + n ≡ suc n
one_and n = omega arith

suc_first : (n m : ℕ) → suc n + m ≡ suc (n + m)
suc_first n m = omega arith

join_node-none : (node : ViewNode) → join_node node [] ≡ node ∷ []
join_node-none (text scalars) = refl
join_node-none (element head children) = refl

-- ---- full nodes

abbrev IsFullElement : Option Layer → Head → ℕ → Type 0 → Type 0
IsFullElement None head count inside = Unit {0}
IsFullElement (Some layer) head count inside = (head ≡ layer_head layer) × (0 < count) × inside

-- a node that stands for an entry or more, as each node in it, and whose attribute elements are as their layers make them
abbrev mutual
  IsFull : ViewNode → Type 0
  IsFull (text scalars) = 0 < length scalars
  IsFull (element head children) = IsFullElement (layer_of head) head (entries_inner children) (AreFull children)

  AreFull : ViewNodes → Type 0
  AreFull none = Unit {0}
  AreFull (more node nodes) = IsFull node × AreFull nodes

abbrev AreFullNodes : List ViewNode → Type 0
AreFullNodes [] = Unit {0}
AreFullNodes (node ∷ nodes) = IsFull node × AreFullNodes nodes

full-list : (nodes : ViewNodes) → AreFull nodes → AreFullNodes (list_of nodes)
full-list none h = tt
full-list (more node nodes) h = (h.0, full-list nodes h.1)

full-nodes : (nodes : List ViewNode) → AreFullNodes nodes → AreFull (nodes_of nodes)
full-nodes [] h = tt
full-nodes (node ∷ nodes) h = (h.0, full-nodes nodes h.1)

nodes_of-list_of : (nodes : ViewNodes) → nodes_of (list_of nodes) ≡ nodes
nodes_of-list_of none = refl
nodes_of-list_of (more node nodes) = ap (more node) (nodes_of-list_of nodes)

layer-entries : (layer : Layer) (nodes : List ViewNode) → entries_in (in_layer layer nodes) ≡ entries_of nodes
layer-entries layer nodes = entries_inner-is (nodes_of nodes) ∙ ap entries_of (list_of-nodes_of nodes)

layer-full : (layer : Layer) (nodes : List ViewNode) → 0 < entries_of nodes → AreFullNodes nodes → IsFull (in_layer layer nodes)
layer-full layer nodes c h = (refl, subst (λ n. 0 < n) (sym (entries_inner-is (nodes_of nodes) ∙ ap entries_of (list_of-nodes_of nodes))) c, full-nodes nodes h)

layer-cut : (at : ℕ) (layer : Layer) (nodes : List ViewNode) → cut_node at (in_layer layer nodes)
    ≡ (in_layer layer (cut at nodes).0 ∷ [], in_layer layer (cut at nodes).1 ∷ [])
layer-cut at layer nodes =
    cut_layer at layer (layer_head layer) (nodes_of nodes) refl
    ∙ ap (λ list. (in_layer layer (cut at list).0 ∷ [], in_layer layer (cut at list).1 ∷ [])) (list_of-nodes_of nodes)

full-entries : (node : ViewNode) → IsFull node → 0 < entries_in node
full-entries (text scalars) h = h
full-entries (element head children) h =
    elim (layer_of head) as (λ own. IsFullElement own head (entries_inner children) (AreFull children)
    → 0 < (if is_some own then entries_inner children else 1)) [
      | None ↦ λ k. omega arith
      | Some layer ↦ λ k. k.1
    ] h

-- nothing stands before the first entry
cut-none : (nodes : List ViewNode) → AreFullNodes nodes → cut 0 nodes ≡ ([], nodes)
cut-none [] h = refl
cut-none (node ∷ nodes) h = cut_start node nodes (not_within (entries_in node) (full-entries node h.0))

-- ---- a node of one entry before others

record AddsTo (node : ViewNode) (nodes : List ViewNode) : Type 0 where
  count : entries_of (join_node node nodes) ≡ suc (entries_of nodes)
  full : AreFullNodes (join_node node nodes)
  cuts : (at : ℕ) → cut (suc at) (join_node node nodes) ≡ (join_node node (cut at nodes).0, (cut at nodes).1)

-- where it isn't joined to them
apart : (node : ViewNode) (nodes : List ViewNode) → entries_in node ≡ 1 → IsFull node → AreFullNodes nodes → join_node node nodes ≡ node ∷ nodes
    → ((at : ℕ) → join_node node (cut at nodes).0 ≡ node ∷ (cut at nodes).0) → AddsTo node nodes
apart node nodes one f h j k = record {
  count = ap entries_of j ∙ ap (λ n. n + entries_of nodes) one ∙ one_and (entries_of nodes);
  full = subst AreFullNodes (sym j) (f, h);
  cuts = λ at.
      ap (cut (suc at)) j ∙ cut_behind (suc at) node nodes (one_within (entries_in node) at one)
      ∙ ap (λ left. (node ∷ (cut left nodes).0, (cut left nodes).1)) (one_less (entries_in node) at one)
      ∙ ap (λ front. (front, (cut at nodes).1)) (sym (k at));
}

-- where it grows the first of them
module _ (node next made : ViewNode) (nodes : List ViewNode) (e : entries_in made ≡ suc (entries_in next))
    (j : (rest : List ViewNode) → join_node node (next ∷ rest) ≡ made ∷ rest)
    (start : cut_node 1 made ≡ (node ∷ [], next ∷ []))
    (inside : (at : ℕ) → cut_node (suc (suc at)) made ≡ (join_node node (cut_node (suc at) next).0, (cut_node (suc at) next).1)) where
  grown_inside : (at : ℕ) → nat_le (entries_in next) at ≡ false → cut (suc at) (made ∷ nodes)
      ≡ (join_node node (cut at (next ∷ nodes)).0, (cut at (next ∷ nodes)).1)
  grown_inside zero t =
      cut_within 0 made nodes (step_within (entries_in next) (entries_in made) 0 false e t)
      ∙ ap (λ (parts : Parts). (parts.0, parts.1 ++ nodes)) start
      ∙ ap (λ front. (front, next ∷ nodes)) (sym (join_node-none node))
      ∙ ap (λ (parts : Parts). (join_node node parts.0, parts.1)) (sym (cut_start next nodes t))
  grown_inside (suc at) t =
      cut_within (suc at) made nodes (step_within (entries_in next) (entries_in made) (suc at) false e t)
      ∙ ap (λ (parts : Parts). (parts.0, parts.1 ++ nodes)) (inside at)
      ∙ ap (λ (parts : Parts). (join_node node parts.0, parts.1)) (sym (cut_within at next nodes t))

  grown_behind : (at : ℕ) → nat_le (entries_in next) at ≡ true → cut (suc at) (made ∷ nodes)
      ≡ (join_node node (cut at (next ∷ nodes)).0, (cut at (next ∷ nodes)).1)
  grown_behind at t =
      cut_behind (suc at) made nodes (step_within (entries_in next) (entries_in made) at true e t)
      ∙ ap (λ left. (made ∷ (cut left nodes).0, (cut left nodes).1)) (step_less (entries_in next) (entries_in made) at e)
      ∙ ap (λ front. (front, (cut (at - entries_in next) nodes).1)) (sym (j (cut (at - entries_in next) nodes).0))
      ∙ ap (λ (parts : Parts). (join_node node parts.0, parts.1)) (sym (cut_behind at next nodes t))

  grown_cuts : (at : ℕ) → cut (suc at) (made ∷ nodes) ≡ (join_node node (cut at (next ∷ nodes)).0, (cut at (next ∷ nodes)).1)
  grown_cuts at =
      elim (nat_le (entries_in next) at) as (λ b. nat_le (entries_in next) at ≡ b → cut (suc at) (made ∷ nodes)
      ≡ (join_node node (cut at (next ∷ nodes)).0, (cut at (next ∷ nodes)).1)) [
        | true ↦ λ t. grown_behind at t
        | false ↦ λ t. grown_inside at t
      ] refl

  grown : IsFull made → AreFullNodes nodes → AddsTo node (next ∷ nodes)
  grown f h = record {
    count = ap entries_of (j nodes) ∙ ap (λ n. n + entries_of nodes) e ∙ suc_first (entries_in next) (entries_of nodes);
    full = subst AreFullNodes (sym (j nodes)) (f, h);
    cuts = λ at. ap (cut (suc at)) (j nodes) ∙ grown_cuts at;
  }

-- what holds of nodes that begin as these do holds of those before a cut
firsts : (P : List ViewNode → Type 0) (at : ℕ) (node : ViewNode) (nodes : List ViewNode) → P [] → ((rest : List ViewNode) → P (node ∷ rest))
    → P (cut_node at node).0 → P (cut at (node ∷ nodes)).0
firsts P at node nodes p q r =
    elim (nat_le (entries_in node) at) as (λ b. P (cut_before b (nat_eq at 0) node nodes (cut_node at node) (cut (at - entries_in node) nodes)).0) [
      | true ↦ q (cut (at - entries_in node) nodes).0
      | false ↦ elim (nat_eq at 0) as (λ b. P (cut_before false b node nodes (cut_node at node) (cut (at - entries_in node) nodes)).0) [ true ↦ p | false ↦ r ]
    ]

-- an element that is cut is an element of the same kind
first_part : (P : List ViewNode → Type 0) (at : ℕ) (head : Head) (children : ViewNodes) → ((kids : ViewNodes) → P (element head kids ∷ []))
    → P (cut_node at (element head children)).0
first_part P at head children h =
    elim (layer_of head) as (λ own. P (cut_element own head children (cut_inner at children)).0) [ None ↦ h _ | Some layer ↦ h _ ]

-- a node of one entry, before any full nodes
record Adds (node : ViewNode) : Type 0 where
  one : entries_in node ≡ 1
  full : IsFull node
  to : (nodes : List ViewNode) → AreFullNodes nodes → AddsTo node nodes

text-adds : (scalar : ℕ) (nodes : List ViewNode) → AreFullNodes nodes → AddsTo (text (scalar ∷ [])) nodes
text-adds scalar [] h = apart (text (scalar ∷ [])) [] refl (omega arith) h refl (λ at. refl)
text-adds scalar (text scalars ∷ nodes) h =
    grown (text (scalar ∷ [])) (text scalars) (text (scalar ∷ scalars)) nodes refl (λ rest. refl) refl (λ at. refl) (omega arith) h.1
text-adds scalar (element head children ∷ nodes) h =
    apart (text (scalar ∷ [])) (element head children ∷ nodes) refl (omega arith) h refl
    (λ at. firsts (λ front. join_node (text (scalar ∷ [])) front ≡ text (scalar ∷ []) ∷ front) at (element head children) nodes refl (λ rest. refl)
    (first_part (λ front. join_node (text (scalar ∷ [])) front ≡ text (scalar ∷ []) ∷ front) at head children (λ kids. refl)))

bare-entries : (head : Head) (children : ViewNodes) → layer_of head ≡ None → entries_in (element head children) ≡ 1
bare-entries head children e = ap (λ own. if is_some own then entries_inner children else 1) e

bare-full : (head : Head) (children : ViewNodes) → layer_of head ≡ None → IsFull (element head children)
bare-full head children e = subst (λ own. IsFullElement own head (entries_inner children) (AreFull children)) (sym e) tt

bare-adds : (head : Head) (children : ViewNodes) → layer_of head ≡ None → Adds (element head children)
bare-adds head children e = record {
  one = bare-entries head children e;
  full = bare-full head children e;
  to = λ nodes h. apart (element head children) nodes (bare-entries head children e) (bare-full head children e) h (node-stays head children nodes e)
      (λ at. node-stays head children (cut at nodes).0 e);
}

layer-grown : (layer : Layer) (node : ViewNode) (inner nodes : List ViewNode) → Adds node → 0 < entries_of inner → AreFullNodes inner
    → AreFullNodes nodes → AddsTo (in_layer layer (node ∷ [])) (in_layer layer inner ∷ nodes)
layer-grown layer node inner nodes a c f h =
    grown (in_layer layer (node ∷ [])) (in_layer layer inner) (in_layer layer (join_node node inner)) nodes
    (layer-entries layer (join_node node inner) ∙ (a.to inner f).count ∙ ap suc (sym (layer-entries layer inner)))
    (λ rest. join-in_layer layer layer (node ∷ []) inner rest (same_layer-itself layer))
    (layer-cut 1 layer (join_node node inner)
    ∙ ap (λ (parts : Parts). (in_layer layer parts.0 ∷ [], in_layer layer parts.1 ∷ [])) ((a.to inner f).cuts 0
    ∙ ap (λ (parts : Parts). (join_node node parts.0, parts.1)) (cut-none inner f) ∙ ap (λ front. (front, inner)) (join_node-none node)))
    (λ at.
    layer-cut (suc (suc at)) layer (join_node node inner)
    ∙ ap (λ (parts : Parts). (in_layer layer parts.0 ∷ [], in_layer layer parts.1 ∷ [])) ((a.to inner f).cuts (suc at))
    ∙ ap (λ front. (front, in_layer layer (cut (suc at) inner).1 ∷ []))
    (sym (join-in_layer layer layer (node ∷ []) (cut (suc at) inner).0 [] (same_layer-itself layer)))
    ∙ ap (λ (parts : Parts). (join_node (in_layer layer (node ∷ [])) parts.0, parts.1)) (sym (layer-cut (suc at) layer inner)))
    (layer-full layer (join_node node inner) (subst (λ n. 0 < n) (sym (a.to inner f).count) (omega arith)) (a.to inner f).full)
    h

other_layer : (layer : Layer) (own : Option Layer) → both_layers (Some layer) own ≡ true → own ≡ Some layer
other_layer layer None e = cc
other_layer layer (Some other) e = ap Some (sym (same_layer-true layer other e))

module _ (layer : Layer) (node : ViewNode) (a : Adds node) where
  layer-one : entries_in (in_layer layer (node ∷ [])) ≡ 1
  layer-one = layer-entries layer (node ∷ []) ∙ omega (arith, a.one)

  layer-is_full : IsFull (in_layer layer (node ∷ []))
  layer-is_full = layer-full layer (node ∷ []) (omega (arith, a.one)) (a.full, tt)

  layer-joined : (other : Head) (inner : ViewNodes) (nodes : List ViewNode) → layer_of other ≡ Some layer → IsFull (element other inner)
      → AreFullNodes nodes → AddsTo (in_layer layer (node ∷ [])) (element other inner ∷ nodes)
  layer-joined other inner nodes own f h =
      let k : (other ≡ layer_head layer) × (0 < entries_inner inner)
      × AreFull inner = subst (λ o. IsFullElement o other (entries_inner inner) (AreFull inner)) own f in
      subst (λ next. AddsTo (in_layer layer (node ∷ [])) (next ∷ nodes)) (λ i. element (sym k.0 i) (nodes_of-list_of inner i))
      (layer-grown layer node (list_of inner) nodes a (subst (λ n. 0 < n) (entries_inner-is inner) k.1) (full-list inner k.2) h)

  layer-to : (nodes : List ViewNode) → AreFullNodes nodes → AddsTo (in_layer layer (node ∷ [])) nodes
  layer-to [] h = apart (in_layer layer (node ∷ [])) [] layer-one layer-is_full h refl (λ at. refl)
  layer-to (text scalars ∷ nodes) h =
      apart (in_layer layer (node ∷ [])) (text scalars ∷ nodes) layer-one layer-is_full h refl
      (λ at. firsts (λ front. join_node (in_layer layer (node ∷ [])) front ≡ in_layer layer (node ∷ []) ∷ front) at (text scalars) nodes refl
      (λ rest. refl) refl)
  layer-to (element other inner ∷ nodes) h =
      elim (joins (layer_head layer) other) as (λ b. joins (layer_head layer) other ≡ b → AddsTo (in_layer layer (node ∷ [])) (element other inner ∷ nodes)) [
        | true ↦ λ j. layer-joined other inner nodes (other_layer layer (layer_of other) j) h.0 h.1
        | false ↦ λ j.
            apart (in_layer layer (node ∷ [])) (element other inner ∷ nodes) layer-one layer-is_full h
            (join_node-apart (layer_head layer) other _ inner nodes j)
            (λ at. firsts (λ front. join_node (in_layer layer (node ∷ [])) front ≡ in_layer layer (node ∷ []) ∷ front) at (element other inner) nodes
            refl (λ rest. join_node-apart (layer_head layer) other _ inner rest j)
            (first_part (λ front. join_node (in_layer layer (node ∷ [])) front ≡ in_layer layer (node ∷ []) ∷ front) at other inner
            (λ kids. join_node-apart (layer_head layer) other _ kids [] j)))
      ] refl

  layer-adds : Adds (in_layer layer (node ∷ []))
  layer-adds = record { one = layer-one; full = layer-is_full; to = layer-to }

-- ---- rows

-- the one node that an entry nests to
record Single (nodes : List ViewNode) : Type 0 where
  node : ViewNode
  is : nodes ≡ node ∷ []
  adds : Adds node

content-single : (content : Content) → is_plain content ≡ true → Single (shown (put [] content nothing))
content-single (leaf (text scalars)) p = cc
content-single (leaf (element head children)) p = record { node = element head children; is = refl; adds = bare-adds head children (leaf_none head p) }
content-single (item (text scalars)) p = cc
content-single (item (element head children)) p = record { node = element head children; is = refl; adds = bare-adds head children (item_none head p) }
content-single (character scalar) p = record {
  node = text (scalar ∷ []);
  is = refl;
  adds = record { one = refl; full = omega arith; to = text-adds scalar };
}
content-single caret p = cc

put-single : (layers : List Layer) (content : Content) → is_plain content ≡ true → Single (shown (put layers content nothing))
put-single [] content p = content-single content p
put-single (layer ∷ layers) content p =
    let inner = put-single layers content p in
    record { node = in_layer layer (inner.node ∷ []); is = ap (λ nodes. in_layer layer nodes ∷ []) inner.is; adds = layer-adds layer inner.node inner.adds }

nest-single : (entry : Entry) (row : List Entry) (h : IsPlainRow (entry ∷ row)) → nest (entry ∷ row)
    ≡ join_node (put-single entry.layers entry.content h.0).node (nest row)
nest-single entry row h =
    nest-cons entry row h ∙ ap (λ front. join front (nest row)) (put-single entry.layers entry.content h.0).is

pub nest-full : (row : List Entry) → IsPlainRow row → AreFullNodes (nest row)
nest-full [] h = tt
nest-full (entry ∷ row) h =
    subst AreFullNodes (sym (nest-single entry row h)) ((put-single entry.layers entry.content h.0).adds.to (nest row) (nest-full row h.1)).full

-- the nodes stand for the entries of the row
pub nest-entries : (row : List Entry) → IsPlainRow row → entries_of (nest row) ≡ length row
nest-entries [] h = refl
nest-entries (entry ∷ row) h =
    ap entries_of (nest-single entry row h) ∙ ((put-single entry.layers entry.content h.0).adds.to (nest row) (nest-full row h.1)).count
    ∙ ap suc (nest-entries row h.1)

pub plain-take : (at : ℕ) (row : List Entry) → IsPlainRow row → IsPlainRow (take at row)
plain-take zero row h = tt
plain-take (suc at) [] h = tt
plain-take (suc at) (entry ∷ row) h = (h.0, plain-take at row h.1)

-- a nested row is cut where its entries are
pub nest-cut : (at : ℕ) (row : List Entry) → IsPlainRow row → cut at (nest row) ≡ (nest (take at row), nest (drop at row))
nest-cut zero row h = cut-none (nest row) (nest-full row h)
nest-cut (suc at) [] h = refl
nest-cut (suc at) (entry ∷ row) h =
    let single = put-single entry.layers entry.content h.0 in
    ap (cut (suc at)) (nest-single entry row h) ∙ (single.adds.to (nest row) (nest-full row h.1)).cuts at
    ∙ ap (λ (parts : Parts). (join_node single.node parts.0, parts.1)) (nest-cut at row h.1)
    ∙ ap (λ front. (front, nest (drop at row))) (sym (nest-single entry (take at row) (h.0, plain-take at row h.1)))
