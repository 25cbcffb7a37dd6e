-- A layer more or less goes through joined lists part by part, so it does on nested rows what it does on entries.
use Rattle.std.proofs.Common.{◌≡◌, List, [], ◌∷◌, map, true, false, not, cond, if◌then◌else◌, Option, Some, None, refl, sym, ap, ◌∙◌}
use Rattle.std.specs.declared.cmp.Ordering.TheVariants.{Less, Equal, Greater}
use Rattle.view_definitions.specs.Node.{Kind, container, attribute, empty, ui, Head, ViewNode, ViewNodes, text, element, none, more, list_of, nodes_of}
use Rattle.view_definitions.specs.NodeCode.{list_of-nodes_of}
use Rattle.view_definitions.specs.Layer.{Layer, layer_cmp, same_layer, layer_of, layer_head, in_layer}
use Rattle.view_definitions.specs.Row.{Content, leaf, item, character, caret, Entry, nothing, put, shown, nest, both_layers, joins, join_node, join_inner, join}
use Rattle.view_definitions.specs.Row.{is_leaf_kind, is_item_kind, is_plain, IsPlainRow}
use Rattle.view_definitions.specs.Change.{by_order, with_layer, without_layer, is_item, entry_with, entry_without, IsBareLeaf, HasBareLeaves}
use Rattle.view_definitions.proofs.Layers.{same_layer-true, same_layer-itself}
use Rattle.view_definitions.proofs.Joins.{join_inner-is, join-none, join-assoc, joined, join_node-joins, join-in_layer, leaf_none, item_none, nest-cons}
use Rattle.view_wrap.specs.Layered.{wrapped_element, wrapped_node, wrapped_inner, wrapped, unwrapped_element, unwrapped_node, unwrapped_inner, unwrapped}

-- the layer of two elements that are one
both_of : (a b : Option Layer) → both_layers a b ≡ true → (own : Layer) × (a ≡ Some own) × (b ≡ Some own)
both_of None b e = cc
both_of (Some a) None e = cc
both_of (Some a) (Some b) e = (a, refl, ap Some (sym (same_layer-true a b e)))

-- an element with the children of two is what the two are, joined
joined_one : (head other : Head) (nodes inner : List ViewNode) → joins head other ≡ true → element head (nodes_of (join nodes inner)) ∷ []
    ≡ join (element head (nodes_of nodes) ∷ []) (element other (nodes_of inner) ∷ [])
joined_one head other nodes inner j =
    ap (λ made. element head (nodes_of made) ∷ [])
    (sym (join_inner-is (nodes_of nodes) (list_of (nodes_of inner)) ∙ (λ i. join (list_of-nodes_of nodes i) (list_of-nodes_of inner i))))
    ∙ sym (join_node-joins head other (nodes_of nodes) (nodes_of inner) [] j)

joined_children : (head other : Head) (children inner : ViewNodes) → joins head other ≡ true
    → element head (nodes_of (join_inner children (list_of inner))) ∷ [] ≡ join (element head children ∷ []) (element other inner ∷ [])
joined_children head other children inner j = sym (join_node-joins head other children inner [] j)

joined_layers : (layer : Layer) (nodes inner : List ViewNode) → in_layer layer (join nodes inner) ∷ []
    ≡ join (in_layer layer nodes ∷ []) (in_layer layer inner ∷ [])
joined_layers layer nodes inner = sym (join-in_layer layer layer nodes inner [] (same_layer-itself layer))

list_join : (nodes others : List ViewNode) → join nodes others ≡ join_inner (nodes_of nodes) others
list_join nodes others = ap (λ list. join list others) (sym (list_of-nodes_of nodes)) ∙ sym (join_inner-is (nodes_of nodes) others)

-- ---- a layer more
module _ (layer : Layer) where
  pub wrapped_inner-is : (nodes : ViewNodes) → wrapped_inner layer nodes ≡ wrapped layer (list_of nodes)
  wrapped_inner-is none = refl
  wrapped_inner-is (more node nodes) = ap (join (wrapped_node layer node ∷ [])) (wrapped_inner-is nodes)

  wrapped_inner-of : (nodes : List ViewNode) → wrapped_inner layer (nodes_of nodes) ≡ wrapped layer nodes
  wrapped_inner-of nodes = wrapped_inner-is (nodes_of nodes) ∙ ap (wrapped layer) (list_of-nodes_of nodes)

  -- the children of two elements that are one, in a layer more
  abbrev InnerJoins : ViewNodes → Type 0
  InnerJoins children = (nodes : List ViewNode) → wrapped layer (join_inner children nodes) ≡ join (wrapped layer (list_of children)) (wrapped layer nodes)

  inner_joins : (children inner : ViewNodes) → InnerJoins children → wrapped_inner layer (nodes_of (join_inner children (list_of inner)))
      ≡ join (wrapped_inner layer children) (wrapped_inner layer inner)
  inner_joins children inner h =
      wrapped_inner-of (join_inner children (list_of inner)) ∙ h (list_of inner)
      ∙ (λ i. join (sym (wrapped_inner-is children) i) (sym (wrapped_inner-is inner) i))

  -- what an element with the children of two is in a layer more
  own_more : (head other : Head) (children inner : ViewNodes) → joins head other ≡ true → InnerJoins children → (own : Layer)
      → wrapped_element layer (Some own) head (nodes_of (join_inner children (list_of inner)))
      (wrapped_inner layer (nodes_of (join_inner children (list_of inner)))) ∷ []
      ≡ join (wrapped_element layer (Some own) head children (wrapped_inner layer children) ∷ [])
      (wrapped_element layer (Some own) other inner (wrapped_inner layer inner) ∷ [])
  own_more head other children inner j h own =
      elim (layer_cmp own layer) as (λ o.
      by_order o (element head (nodes_of (wrapped_inner layer (nodes_of (join_inner children (list_of inner))))))
      (element head (nodes_of (join_inner children (list_of inner))))
      (in_layer layer (element head (nodes_of (join_inner children (list_of inner))) ∷ [])) ∷ []
      ≡ join (by_order o (element head (nodes_of (wrapped_inner layer children))) (element head children) (in_layer layer (element head children ∷ []))
      ∷ []) (by_order o (element other (nodes_of (wrapped_inner layer inner))) (element other inner) (in_layer layer (element other inner ∷ [])) ∷ [])) [
        | Less ↦ ap (λ made. element head (nodes_of made) ∷ []) (inner_joins children inner h)
            ∙ joined_one head other (wrapped_inner layer children) (wrapped_inner layer inner) j
        | Equal ↦ joined_children head other children inner j
        | Greater ↦ ap (λ made. in_layer layer made ∷ []) (joined_children head other children inner j)
            ∙ joined_layers layer (element head children ∷ []) (element other inner ∷ [])
      ]

  one_more : (head other : Head) (children inner : ViewNodes) → joins head other ≡ true → InnerJoins children
      → (a b : Option Layer) → (own : Layer) × (a ≡ Some own) × (b ≡ Some own)
      → wrapped_element layer a head (nodes_of (join_inner children (list_of inner)))
      (wrapped_inner layer (nodes_of (join_inner children (list_of inner)))) ∷ []
      ≡ join (wrapped_element layer a head children (wrapped_inner layer children) ∷ []) (wrapped_element layer b other inner (wrapped_inner layer inner) ∷ [])
  one_more head other children inner j h a b own =
      ap (λ x. wrapped_element layer x head (nodes_of (join_inner children (list_of inner)))
      (wrapped_inner layer (nodes_of (join_inner children (list_of inner)))) ∷ []) own.1
      ∙ own_more head other children inner j h own.0
      ∙ (λ i. join (wrapped_element layer (sym own.1 i) head children (wrapped_inner layer children) ∷ [])
      (wrapped_element layer (sym own.2 i) other inner (wrapped_inner layer inner) ∷ []))

  mutual
    wrapped-node_joins : (node : ViewNode) (nodes : List ViewNode) → wrapped layer (join_node node nodes)
        ≡ join (wrapped_node layer node ∷ []) (wrapped layer nodes)
    wrapped-node_joins (text scalars) [] = refl
    wrapped-node_joins (text scalars) (text more_scalars ∷ nodes) =
        ap (λ front. join front (wrapped layer nodes)) (joined_layers layer (text scalars ∷ []) (text more_scalars ∷ []))
        ∙ sym (join-assoc (in_layer layer (text scalars ∷ []) ∷ []) (in_layer layer (text more_scalars ∷ []) ∷ []) (wrapped layer nodes))
    wrapped-node_joins (text scalars) (element other inner ∷ nodes) = refl
    wrapped-node_joins (element head children) [] = refl
    wrapped-node_joins (element head children) (text scalars ∷ nodes) = refl
    wrapped-node_joins (element head children) (element other inner ∷ nodes) =
        elim (joins head other) as (λ b. joins head other ≡ b
        → wrapped layer (if b then joined head children inner ∷ nodes else element head children ∷ element other inner ∷ nodes)
        ≡ join (wrapped_node layer (element head children) ∷ []) (wrapped layer (element other inner ∷ nodes))) [
          | true ↦ λ j.
              ap (λ front. join front (wrapped layer nodes)) (one_more head other children inner j (wrapped-inner_joins children) (layer_of head)
              (layer_of other) (both_of (layer_of head) (layer_of other) j))
              ∙ sym (join-assoc (wrapped_node layer (element head children) ∷ []) (wrapped_node layer (element other inner) ∷ []) (wrapped layer nodes))
          | false ↦ λ j. refl
        ] refl

    wrapped-inner_joins : (children : ViewNodes) (nodes : List ViewNode) → wrapped layer (join_inner children nodes)
        ≡ join (wrapped layer (list_of children)) (wrapped layer nodes)
    wrapped-inner_joins none nodes = refl
    wrapped-inner_joins (more node none) nodes =
        wrapped-node_joins node nodes ∙ ap (λ front. join front (wrapped layer nodes)) (sym (join-none (wrapped_node layer node ∷ [])))
    wrapped-inner_joins (more node (more next rest)) nodes =
        ap (join (wrapped_node layer node ∷ [])) (wrapped-inner_joins (more next rest) nodes)
        ∙ join-assoc (wrapped_node layer node ∷ []) (wrapped layer (list_of (more next rest))) (wrapped layer nodes)

  -- a layer more goes through joined lists
  pub wrapped-join : (nodes others : List ViewNode) → wrapped layer (join nodes others) ≡ join (wrapped layer nodes) (wrapped layer others)
  wrapped-join nodes others =
      ap (wrapped layer) (list_join nodes others) ∙ wrapped-inner_joins (nodes_of nodes) others
      ∙ ap (λ list. join (wrapped layer list) (wrapped layer others)) (list_of-nodes_of nodes)

  -- an element that is no attribute element is wrapped itself, if it is no leaf
  bare_wrapped : (head : Head) (children : ViewNodes) → layer_of head ≡ None → is_leaf_kind head.kind ≡ false
      → wrapped_node layer (element head children) ≡ in_layer layer (element head children ∷ [])
  bare_wrapped head children e k =
      ap (λ own. wrapped_element layer own head children (wrapped_inner layer children)) e
      ∙ ap (λ b. if b then element head children else in_layer layer (element head children ∷ [])) k

  leaf_wrapped : (head : Head) (children : ViewNodes) → layer_of head ≡ None → is_leaf_kind head.kind ≡ true
      → wrapped_node layer (element head children) ≡ element head children
  leaf_wrapped head children e k =
      ap (λ own. wrapped_element layer own head children (wrapped_inner layer children)) e
      ∙ ap (λ b. if b then element head children else in_layer layer (element head children ∷ [])) k

  item_no_leaf : (kind : Kind) → is_item_kind kind ≡ true → is_leaf_kind kind ≡ false
  item_no_leaf container e = refl
  item_no_leaf (attribute priority id) e = refl
  item_no_leaf empty e = refl
  item_no_leaf ui e = cc

  -- the layer at its place among those of an item
  item_wrapped : (layers : List Layer) (content : Content) → wrapped layer (shown (put [] content nothing))
      ≡ in_layer layer (shown (put [] content nothing)) ∷ []
      → wrapped layer (shown (put layers content nothing)) ≡ shown (put (with_layer layer layers) content nothing)
  item_wrapped [] content h = h
  item_wrapped (other ∷ layers) content h =
      join-none (wrapped_node layer (in_layer other (shown (put layers content nothing))) ∷ [])
      ∙ elim (layer_cmp other layer) as
      (λ o. by_order o (element (layer_head other) (nodes_of (wrapped_inner layer (nodes_of (shown (put layers content nothing))))))
      (in_layer other (shown (put layers content nothing))) (in_layer layer (in_layer other (shown (put layers content nothing)) ∷ [])) ∷ []
      ≡ shown (put (by_order o (other ∷ with_layer layer layers) (other ∷ layers) (layer ∷ other ∷ layers)) content nothing)) [
        | Less ↦ ap (λ nodes. in_layer other nodes ∷ []) (wrapped_inner-of (shown (put layers content nothing)) ∙ item_wrapped layers content h)
        | Equal ↦ refl
        | Greater ↦ refl
      ]

  -- one entry with the layer
  entry_wrapped : (content : Content) (layers : List Layer) → is_plain content ≡ true → IsBareLeaf content layers
      → wrapped layer (shown (put layers content nothing))
      ≡ shown (put (entry_with layer (record { content = content; layers = layers })).layers content nothing)
  entry_wrapped (leaf (text scalars)) layers p b = cc
  entry_wrapped (leaf (element head children)) layers p b =
      ap (λ ls. wrapped layer (shown (put ls (leaf (element head children)) nothing))) b
      ∙ ap (λ node. join (node ∷ []) []) (leaf_wrapped head children (leaf_none head p) p)
      ∙ ap (λ ls. shown (put ls (leaf (element head children)) nothing)) (sym b)
  entry_wrapped (item (text scalars)) layers p b = cc
  entry_wrapped (item (element head children)) layers p b =
      item_wrapped layers (item (element head children))
      (ap (λ node. join (node ∷ []) []) (bare_wrapped head children (item_none head p) (item_no_leaf head.kind p)))
  entry_wrapped (character scalar) layers p b = item_wrapped layers (character scalar) refl
  entry_wrapped caret layers p b = cc

  content-with : (entry : Entry) → (entry_with layer entry).content ≡ entry.content
  content-with entry = elim (is_item entry.content) as (λ b. (if b then record entry { layers = with_layer layer entry.layers } else entry).content
      ≡ entry.content) [ true ↦ refl | false ↦ refl ]

  pub plain-with : (row : List Entry) → IsPlainRow row → IsPlainRow (map (entry_with layer) row)
  plain-with [] h = tt
  plain-with (entry ∷ row) h = (ap is_plain (content-with entry) ∙ h.0, plain-with row h.1)

  first-with : (entry : Entry) → is_plain entry.content ≡ true → IsBareLeaf entry.content entry.layers → wrapped layer (nest (entry ∷ []))
      ≡ nest (entry_with layer entry ∷ [])
  first-with entry p b =
      entry_wrapped entry.content entry.layers p b
      ∙ ap (λ content. shown (put (entry_with layer entry).layers content nothing)) (sym (content-with entry))

  -- a nested row in a layer more
  pub nest-wrapped : (row : List Entry) → IsPlainRow row → HasBareLeaves row → wrapped layer (nest row) ≡ nest (map (entry_with layer) row)
  nest-wrapped [] h b = refl
  nest-wrapped (entry ∷ row) h b =
      ap (wrapped layer) (nest-cons entry row h) ∙ wrapped-join (nest (entry ∷ [])) (nest row)
      ∙ (λ i. join (first-with entry h.0 b.0 i) (nest-wrapped row h.1 b.1 i))
      ∙ sym (nest-cons (entry_with layer entry) (map (entry_with layer) row) (plain-with (entry ∷ row) h))

-- ---- a layer less
module _ (layer : Layer) where
  pub unwrapped_inner-is : (nodes : ViewNodes) → unwrapped_inner layer nodes ≡ unwrapped layer (list_of nodes)
  unwrapped_inner-is none = refl
  unwrapped_inner-is (more node nodes) = ap (join (unwrapped_node layer node)) (unwrapped_inner-is nodes)

  unwrapped_inner-of : (nodes : List ViewNode) → unwrapped_inner layer (nodes_of nodes) ≡ unwrapped layer nodes
  unwrapped_inner-of nodes = unwrapped_inner-is (nodes_of nodes) ∙ ap (unwrapped layer) (list_of-nodes_of nodes)

  abbrev InnerJoinsLess : ViewNodes → Type 0
  InnerJoinsLess children = (nodes : List ViewNode) → unwrapped layer (join_inner children nodes)
      ≡ join (unwrapped layer (list_of children)) (unwrapped layer nodes)

  inner_joins_less : (children inner : ViewNodes) → InnerJoinsLess children → unwrapped_inner layer (nodes_of (join_inner children (list_of inner)))
      ≡ join (unwrapped_inner layer children) (unwrapped_inner layer inner)
  inner_joins_less children inner h =
      unwrapped_inner-of (join_inner children (list_of inner)) ∙ h (list_of inner)
      ∙ (λ i. join (sym (unwrapped_inner-is children) i) (sym (unwrapped_inner-is inner) i))

  own_less : (head other : Head) (children inner : ViewNodes) → joins head other ≡ true → InnerJoinsLess children → (own : Layer)
      → unwrapped_element layer (Some own) head (nodes_of (join_inner children (list_of inner)))
      (unwrapped_inner layer (nodes_of (join_inner children (list_of inner))))
      ≡ join (unwrapped_element layer (Some own) head children (unwrapped_inner layer children))
      (unwrapped_element layer (Some own) other inner (unwrapped_inner layer inner))
  own_less head other children inner j h own =
      elim (same_layer layer own) as (λ b.
      (if b then unwrapped_inner layer (nodes_of (join_inner children (list_of inner)))
      else element head (nodes_of (unwrapped_inner layer (nodes_of (join_inner children (list_of inner))))) ∷ [])
      ≡ join (if b then unwrapped_inner layer children else element head (nodes_of (unwrapped_inner layer children)) ∷ []) (if b
      then unwrapped_inner layer inner else element other (nodes_of (unwrapped_inner layer inner)) ∷ [])) [
        | true ↦ inner_joins_less children inner h
        | false ↦ ap (λ made. element head (nodes_of made) ∷ []) (inner_joins_less children inner h)
            ∙ joined_one head other (unwrapped_inner layer children) (unwrapped_inner layer inner) j
      ]

  one_less : (head other : Head) (children inner : ViewNodes) → joins head other ≡ true → InnerJoinsLess children
      → (a b : Option Layer) → (own : Layer) × (a ≡ Some own) × (b ≡ Some own)
      → unwrapped_element layer a head (nodes_of (join_inner children (list_of inner))) (unwrapped_inner layer (nodes_of (join_inner children (list_of inner))))
      ≡ join (unwrapped_element layer a head children (unwrapped_inner layer children)) (unwrapped_element layer b other inner (unwrapped_inner layer inner))
  one_less head other children inner j h a b own =
      ap (λ x. unwrapped_element layer x head (nodes_of (join_inner children (list_of inner)))
      (unwrapped_inner layer (nodes_of (join_inner children (list_of inner))))) own.1
      ∙ own_less head other children inner j h own.0
      ∙ (λ i. join (unwrapped_element layer (sym own.1 i) head children (unwrapped_inner layer children))
      (unwrapped_element layer (sym own.2 i) other inner (unwrapped_inner layer inner)))

  mutual
    unwrapped-node_joins : (node : ViewNode) (nodes : List ViewNode) → unwrapped layer (join_node node nodes)
        ≡ join (unwrapped_node layer node) (unwrapped layer nodes)
    unwrapped-node_joins (text scalars) [] = refl
    unwrapped-node_joins (text scalars) (text more_scalars ∷ nodes) = sym (join-assoc (text scalars ∷ []) (text more_scalars ∷ []) (unwrapped layer nodes))
    unwrapped-node_joins (text scalars) (element other inner ∷ nodes) = refl
    unwrapped-node_joins (element head children) [] = refl
    unwrapped-node_joins (element head children) (text scalars ∷ nodes) = refl
    unwrapped-node_joins (element head children) (element other inner ∷ nodes) =
        elim (joins head other) as (λ b. joins head other ≡ b
        → unwrapped layer (if b then joined head children inner ∷ nodes else element head children ∷ element other inner ∷ nodes)
        ≡ join (unwrapped_node layer (element head children)) (unwrapped layer (element other inner ∷ nodes))) [
          | true ↦ λ j.
              ap (λ front. join front (unwrapped layer nodes)) (one_less head other children inner j (unwrapped-inner_joins children) (layer_of head)
              (layer_of other) (both_of (layer_of head) (layer_of other) j))
              ∙ sym (join-assoc (unwrapped_node layer (element head children)) (unwrapped_node layer (element other inner)) (unwrapped layer nodes))
          | false ↦ λ j. refl
        ] refl

    unwrapped-inner_joins : (children : ViewNodes) (nodes : List ViewNode) → unwrapped layer (join_inner children nodes)
        ≡ join (unwrapped layer (list_of children)) (unwrapped layer nodes)
    unwrapped-inner_joins none nodes = refl
    unwrapped-inner_joins (more node none) nodes =
        unwrapped-node_joins node nodes ∙ ap (λ front. join front (unwrapped layer nodes)) (sym (join-none (unwrapped_node layer node)))
    unwrapped-inner_joins (more node (more next rest)) nodes =
        ap (join (unwrapped_node layer node)) (unwrapped-inner_joins (more next rest) nodes)
        ∙ join-assoc (unwrapped_node layer node) (unwrapped layer (list_of (more next rest))) (unwrapped layer nodes)

  -- a layer less goes through joined lists
  unwrapped-join : (nodes others : List ViewNode) → unwrapped layer (join nodes others) ≡ join (unwrapped layer nodes) (unwrapped layer others)
  unwrapped-join nodes others =
      ap (unwrapped layer) (list_join nodes others) ∙ unwrapped-inner_joins (nodes_of nodes) others
      ∙ ap (λ list. join (unwrapped layer list) (unwrapped layer others)) (list_of-nodes_of nodes)

  bare_unwrapped : (head : Head) (children : ViewNodes) → layer_of head ≡ None → unwrapped layer (element head children ∷ []) ≡ element head children ∷ []
  bare_unwrapped head children e = ap (λ own. join (unwrapped_element layer own head children (unwrapped_inner layer children)) []) e

  content_unwrapped : (content : Content) → is_plain content ≡ true → unwrapped layer (shown (put [] content nothing)) ≡ shown (put [] content nothing)
  content_unwrapped (leaf (text scalars)) p = cc
  content_unwrapped (leaf (element head children)) p = bare_unwrapped head children (leaf_none head p)
  content_unwrapped (item (text scalars)) p = cc
  content_unwrapped (item (element head children)) p = bare_unwrapped head children (item_none head p)
  content_unwrapped (character scalar) p = refl
  content_unwrapped caret p = cc

  entry_unwrapped : (layers : List Layer) (content : Content) → is_plain content ≡ true → unwrapped layer (shown (put layers content nothing))
      ≡ shown (put (without_layer layer layers) content nothing)
  entry_unwrapped [] content p = content_unwrapped content p
  entry_unwrapped (other ∷ layers) content p =
      join-none (unwrapped_node layer (in_layer other (shown (put layers content nothing))))
      ∙ elim (same_layer layer other) as (λ b. (if b then unwrapped_inner layer (nodes_of (shown (put layers content nothing)))
      else element (layer_head other) (nodes_of (unwrapped_inner layer (nodes_of (shown (put layers content nothing))))) ∷ [])
      ≡ shown (put (cond (not b) (other ∷ without_layer layer layers) (without_layer layer layers)) content nothing)) [
        | true ↦ unwrapped_inner-of (shown (put layers content nothing)) ∙ entry_unwrapped layers content p
        | false ↦ ap (λ nodes. in_layer other nodes ∷ []) (unwrapped_inner-of (shown (put layers content nothing)) ∙ entry_unwrapped layers content p)
      ]

  pub plain-without : (row : List Entry) → IsPlainRow row → IsPlainRow (map (entry_without layer) row)
  plain-without [] h = tt
  plain-without (entry ∷ row) h = (h.0, plain-without row h.1)

  -- a nested row in a layer less
  pub nest-unwrapped : (row : List Entry) → IsPlainRow row → unwrapped layer (nest row) ≡ nest (map (entry_without layer) row)
  nest-unwrapped [] h = refl
  nest-unwrapped (entry ∷ row) h =
      ap (unwrapped layer) (nest-cons entry row h) ∙ unwrapped-join (nest (entry ∷ [])) (nest row)
      ∙ (λ i. join (entry_unwrapped entry.layers entry.content h.0 i) (nest-unwrapped row h.1 i))
      ∙ sym (nest-cons (entry_without layer entry) (map (entry_without layer) row) (plain-without (entry ∷ row) h))
