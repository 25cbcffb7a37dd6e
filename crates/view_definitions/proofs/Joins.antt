-- Joining lists of nodes where they meet: it is associative, and a row nests to what its parts nest to, joined.
use Rattle.std.proofs.Common.{◌≡◌, ℕ, List, [], ◌∷◌, ◌++◌, true, false, if◌then◌else◌, Option, Some, None, refl, sym, ap, ◌∙◌, subst, append_assoc}
use Rattle.view_definitions.specs.Node.{Kind, container, attribute, empty, ui, Head, ViewAttributes, ViewNode, ViewNodes, text, element, none, more, list_of}
use Rattle.view_definitions.specs.Node.{nodes_of}
use Rattle.view_definitions.specs.NodeCode.{list_of-nodes_of}
use Rattle.view_definitions.specs.Layer.{Layer, same_layer, layer_of, layer_of_kind, layer_head, in_layer}
use Rattle.view_definitions.specs.Row.{Content, leaf, item, character, caret, Entry, Piece, Pieces, nothing, first, bare, wrapped, put, pieces_of}
use Rattle.view_definitions.specs.Row.{character_before, content_before, shown, nest, both_layers, joins, join_node, join_inner, join, is_leaf_kind}
use Rattle.view_definitions.specs.Row.{is_item_kind, is_plain, IsPlainRow}
use Rattle.view_definitions.proofs.Layers.{same_layer-true}

-- the children of an element are joined as lists are
pub join_inner-is : (nodes : ViewNodes) (more_nodes : List ViewNode) → join_inner nodes more_nodes ≡ join (list_of nodes) more_nodes
join_inner-is none more_nodes = refl
join_inner-is (more node none) more_nodes = refl
join_inner-is (more node (more next rest)) more_nodes = ap (λ nodes. node ∷ nodes) (join_inner-is (more next rest) more_nodes)

pub join-none : (nodes : List ViewNode) → join nodes [] ≡ nodes
join-none [] = refl
join-none (text scalars ∷ []) = refl
join-none (element head children ∷ []) = refl
join-none (node ∷ next ∷ rest) = ap (λ nodes. node ∷ nodes) (join-none (next ∷ rest))

pub both_layers-same : (a b : Option Layer) → both_layers a b ≡ true → a ≡ b
both_layers-same None b e = cc
both_layers-same (Some a) None e = cc
both_layers-same (Some a) (Some b) e = ap Some (same_layer-true a b e)

-- an element that joins another joins what that one joins
pub joins-along : (head other third : Head) → joins head other ≡ true → joins head third ≡ joins other third
joins-along head other third e = ap (λ layer. both_layers layer (layer_of third)) (both_layers-same (layer_of head) (layer_of other) e)

-- an element with the children of two
abbrev pub joined : Head → ViewNodes → ViewNodes → ViewNode
joined head children inner = element head (nodes_of (join_inner children (list_of inner)))

pub join_node-joins : (head other : Head) (children inner : ViewNodes) (nodes : List ViewNode) → joins head other ≡ true
    → join_node (element head children) (element other inner ∷ nodes) ≡ joined head children inner ∷ nodes
join_node-joins head other children inner nodes e = rw e refl

pub join_node-apart : (head other : Head) (children inner : ViewNodes) (nodes : List ViewNode) → joins head other ≡ false
    → join_node (element head children) (element other inner ∷ nodes) ≡ element head children ∷ element other inner ∷ nodes
join_node-apart head other children inner nodes e = rw e refl

-- a node that an element stands before stays behind what the element is joined to
apart-before : (head other : Head) (children inner : ViewNodes) (nodes : List ViewNode) → joins head other ≡ false
    → join_node (element head children) (join_node (element other inner) nodes) ≡ element head children ∷ join_node (element other inner) nodes
apart-before head other children inner [] e = join_node-apart head other children inner [] e
apart-before head other children inner (text scalars ∷ nodes) e = join_node-apart head other children inner (text scalars ∷ nodes) e
apart-before head other children inner (element third kids ∷ nodes) e =
    elim (joins other third) as (λ b. joins other third ≡ b
    → join_node (element head children) (join_node (element other inner) (element third kids ∷ nodes))
    ≡ element head children ∷ join_node (element other inner) (element third kids ∷ nodes)) [
      | true ↦ λ j. rw (join_node-joins other third inner kids nodes j) (join_node-apart head other children _ nodes e)
      | false ↦ λ j. rw (join_node-apart other third inner kids nodes j) (join_node-apart head other children inner (element third kids ∷ nodes) e)
    ] refl

text-before : (scalars : List ℕ) (head : Head) (children : ViewNodes) (nodes : List ViewNode)
    → join_node (text scalars) (join_node (element head children) nodes) ≡ text scalars ∷ join_node (element head children) nodes
text-before scalars head children [] = refl
text-before scalars head children (text more_scalars ∷ nodes) = refl
text-before scalars head children (element other inner ∷ nodes) =
    elim (joins head other) as (λ b. joins head other ≡ b → join_node (text scalars) (join_node (element head children) (element other inner ∷ nodes))
    ≡ text scalars ∷ join_node (element head children) (element other inner ∷ nodes)) [
      | true ↦ λ j. rw (join_node-joins head other children inner nodes j) refl
      | false ↦ λ j. rw (join_node-apart head other children inner nodes j) refl
    ] refl

before-text : (head : Head) (children : ViewNodes) (scalars : List ℕ) (nodes : List ViewNode)
    → join_node (element head children) (join_node (text scalars) nodes) ≡ element head children ∷ join_node (text scalars) nodes
before-text head children scalars [] = refl
before-text head children scalars (text more_scalars ∷ nodes) = refl
before-text head children scalars (element other inner ∷ nodes) = refl

texts-before : (scalars more_scalars : List ℕ) (nodes : List ViewNode) → join_node (text scalars) (join_node (text more_scalars) nodes)
    ≡ join_node (text (scalars ++ more_scalars)) nodes
texts-before scalars more_scalars [] = refl
texts-before scalars more_scalars (text last ∷ nodes) = ap (λ joined_text. text joined_text ∷ nodes) (sym (append_assoc scalars more_scalars last))
texts-before scalars more_scalars (element head children ∷ nodes) = refl

joined-node-some : (node : ViewNode) (nodes : List ViewNode) (P : List ViewNode → Type 0) → ((x : ViewNode) (xs : List ViewNode) → P (x ∷ xs))
    → P (join_node node nodes)
joined-node-some (text scalars) [] P h = h _ _
joined-node-some (text scalars) (text more_scalars ∷ nodes) P h = h _ _
joined-node-some (text scalars) (element head children ∷ nodes) P h = h _ _
joined-node-some (element head children) [] P h = h _ _
joined-node-some (element head children) (text scalars ∷ nodes) P h = h _ _
joined-node-some (element head children) (element other inner ∷ nodes) P h =
    elim (joins head other) as (λ b. P (if b then joined head children inner ∷ nodes else element head children ∷ element other inner ∷ nodes))
    [ true ↦ h _ _ | false ↦ h _ _ ]

joined-some : (node : ViewNode) (rest nodes : List ViewNode) (P : List ViewNode → Type 0) → ((x : ViewNode) (xs : List ViewNode) → P (x ∷ xs))
    → P (join (node ∷ rest) nodes)
joined-some node [] nodes P h = joined-node-some node nodes P h
joined-some node (next ∷ rest) nodes P h = h _ _

cons-join : (node first_node : ViewNode) (rest nodes last : List ViewNode) → join (node ∷ join (first_node ∷ rest) nodes) last
    ≡ node ∷ join (join (first_node ∷ rest) nodes) last
cons-join node first_node rest nodes last =
    joined-some first_node rest nodes (λ middle. join (node ∷ middle) last ≡ node ∷ join middle last) (λ x xs. refl)

cons-inner : (node : ViewNode) (next : ViewNode) (rest : ViewNodes) (nodes last : List ViewNode) → join (node ∷ join_inner (more next rest) nodes) last
    ≡ node ∷ join (join_inner (more next rest) nodes) last
cons-inner node next rest nodes last =
    subst (λ middle. join (node ∷ middle) last ≡ node ∷ join middle last) (sym (join_inner-is (more next rest) nodes))
    (cons-join node next (list_of rest) nodes last)

-- the children of three elements that are one
joined-thrice : (head : Head) (children inner kids : ViewNodes) → join_inner children (join (list_of inner) (list_of kids))
    ≡ join (join_inner children (list_of inner)) (list_of kids)
    → joined head children (nodes_of (join_inner inner (list_of kids))) ≡ joined head (nodes_of (join_inner children (list_of inner))) kids
joined-thrice head children inner kids h =
    ap (λ nodes. element head (nodes_of nodes))
    (ap (join_inner children) (list_of-nodes_of (join_inner inner (list_of kids)) ∙ join_inner-is inner (list_of kids))
    ∙ h
    ∙ ap (λ nodes. join nodes (list_of kids)) (sym (list_of-nodes_of (join_inner children (list_of inner))))
    ∙ sym (join_inner-is (nodes_of (join_inner children (list_of inner))) (list_of kids)))

joined-before : (head other : Head) (children inner : ViewNodes) (nodes : List ViewNode) → joins head other ≡ true
    → ((kids : ViewNodes) → join_inner children (join (list_of inner) (list_of kids)) ≡ join (join_inner children (list_of inner)) (list_of kids))
    → join_node (element head children) (join_node (element other inner) nodes) ≡ join_node (joined head children inner) nodes
joined-before head other children inner [] e h = join_node-joins head other children inner [] e
joined-before head other children inner (text scalars ∷ nodes) e h = join_node-joins head other children inner (text scalars ∷ nodes) e
joined-before head other children inner (element third kids ∷ nodes) e h =
    elim (joins other third) as (λ b. joins other third ≡ b
    → join_node (element head children) (join_node (element other inner) (element third kids ∷ nodes))
    ≡ join_node (joined head children inner) (element third kids ∷ nodes)) [
      | true ↦ λ j.
          ap (join_node (element head children)) (join_node-joins other third inner kids nodes j)
          ∙ join_node-joins head other children _ nodes e
          ∙ ap (λ node. node ∷ nodes) (joined-thrice head children inner kids (h kids))
          ∙ sym (join_node-joins head third _ kids nodes (joins-along head other third e ∙ j))
      | false ↦ λ j.
          ap (join_node (element head children)) (join_node-apart other third inner kids nodes j)
          ∙ join_node-joins head other children inner (element third kids ∷ nodes) e
          ∙ sym (join_node-apart head third _ kids nodes (joins-along head other third e ∙ j))
    ] refl

mutual
  assoc-node : (node : ViewNode) (ys zs : List ViewNode) → join_node node (join ys zs) ≡ join (join_node node ys) zs
  assoc-node (text scalars) [] zs = refl
  assoc-node (text scalars) (text more_scalars ∷ []) zs = texts-before scalars more_scalars zs
  assoc-node (text scalars) (text more_scalars ∷ next ∷ rest) zs = refl
  assoc-node (text scalars) (element head children ∷ []) zs = text-before scalars head children zs
  assoc-node (text scalars) (element head children ∷ next ∷ rest) zs = refl
  assoc-node (element head children) [] zs = refl
  assoc-node (element head children) (text scalars ∷ []) zs = before-text head children scalars zs
  assoc-node (element head children) (text scalars ∷ next ∷ rest) zs = refl
  assoc-node (element head children) (element other inner ∷ []) zs =
      elim (joins head other) as (λ b. joins head other ≡ b → join_node (element head children) (join_node (element other inner) zs)
      ≡ join (if b then joined head children inner ∷ [] else element head children ∷ element other inner ∷ []) zs) [
        | true ↦ λ e. joined-before head other children inner zs e (λ kids. assoc-inner children (list_of inner) (list_of kids))
        | false ↦ λ e. apart-before head other children inner zs e
      ] refl
  assoc-node (element head children) (element other inner ∷ next ∷ rest) zs =
      elim (joins head other) as (λ b. (if b then joined head children inner ∷ join (next ∷ rest) zs else element head children ∷ element other inner
      ∷ join (next ∷ rest) zs) ≡ join (if b then joined head children inner ∷ next ∷ rest else element head children ∷ element other inner ∷ next
      ∷ rest) zs) [
        | true ↦ refl
        | false ↦ refl
      ]

  assoc-inner : (nodes : ViewNodes) (ys zs : List ViewNode) → join_inner nodes (join ys zs) ≡ join (join_inner nodes ys) zs
  assoc-inner none ys zs = refl
  assoc-inner (more node none) ys zs = assoc-node node ys zs
  assoc-inner (more node (more next rest)) ys zs =
      ap (λ nodes. node ∷ nodes) (assoc-inner (more next rest) ys zs) ∙ sym (cons-inner node next rest ys zs)

-- joining is associative
pub join-assoc : (xs ys zs : List ViewNode) → join xs (join ys zs) ≡ join (join xs ys) zs
join-assoc [] ys zs = refl
join-assoc (node ∷ []) ys zs = assoc-node node ys zs
join-assoc (node ∷ next ∷ rest) ys zs =
    ap (λ nodes. node ∷ nodes) (join-assoc (next ∷ rest) ys zs) ∙ sym (cons-join node next rest ys zs)

-- ---- rows

-- pieces without the caret
abbrev mutual
  PlainPiece : Piece → Type 0
  PlainPiece (bare content) = is_plain content ≡ true
  PlainPiece (wrapped layer inner) = PlainPieces inner

  pub PlainPieces : Pieces → Type 0
  PlainPieces nothing = Unit {0}
  PlainPieces (first piece pieces) = PlainPiece piece × PlainPieces pieces

plain-put : (layers : List Layer) (content : Content) (pieces : Pieces) → is_plain content ≡ true → PlainPieces pieces → PlainPieces (put layers content pieces)
plain-put [] content pieces p h = (p, h)
plain-put (layer ∷ layers) content nothing p h = (plain-put layers content nothing p tt, tt)
plain-put (layer ∷ layers) content (first (bare next) pieces) p h = (plain-put layers content nothing p tt, h)
plain-put (layer ∷ layers) content (first (wrapped other inner) pieces) p h =
    elim (same_layer layer other) as (λ b. PlainPieces (if b then first (wrapped layer (put layers content inner)) pieces
    else first (wrapped layer (put layers content nothing)) (first (wrapped other inner) pieces))) [
      | true ↦ (plain-put layers content inner p h.0, h.1)
      | false ↦ (plain-put layers content nothing p tt, h)
    ]

-- a row without the caret has pieces without it
pub plain-pieces : (row : List Entry) → IsPlainRow row → PlainPieces (pieces_of row)
plain-pieces [] h = tt
plain-pieces (entry ∷ row) h = plain-put entry.layers entry.content (pieces_of row) h.0 (plain-pieces row h.1)

leaf-kind : (number : Option ℕ) (kind : Kind) (name : List ℕ) (attributes : ViewAttributes) → is_leaf_kind kind ≡ true
    → layer_of_kind number kind name attributes ≡ None
leaf-kind (Some number) kind name attributes e = refl
leaf-kind None container name attributes e = refl
leaf-kind None (attribute priority id) name attributes e = cc
leaf-kind None empty name attributes e = refl
leaf-kind None ui name attributes e = refl

item-kind : (number : Option ℕ) (kind : Kind) (name : List ℕ) (attributes : ViewAttributes) → is_item_kind kind ≡ true
    → layer_of_kind number kind name attributes ≡ None
item-kind (Some number) kind name attributes e = refl
item-kind None container name attributes e = refl
item-kind None (attribute priority id) name attributes e = cc
item-kind None empty name attributes e = refl
item-kind None ui name attributes e = refl

-- leaves and items are in no layer of their own
pub leaf_none : (head : Head) → is_leaf_kind head.kind ≡ true → layer_of head ≡ None
leaf_none head e = leaf-kind head.number head.kind head.name head.attributes e

pub item_none : (head : Head) → is_item_kind head.kind ≡ true → layer_of head ≡ None
item_none head e = item-kind head.number head.kind head.name head.attributes e

both_layers-none : (a : Option Layer) → both_layers a None ≡ false
both_layers-none None = refl
both_layers-none (Some a) = refl

-- an element that is no attribute element is joined to none
pub node-stays : (head : Head) (children : ViewNodes) (nodes : List ViewNode) → layer_of head ≡ None → join_node (element head children) nodes
    ≡ element head children ∷ nodes
node-stays head children [] e = refl
node-stays head children (text scalars ∷ nodes) e = refl
node-stays head children (element other inner ∷ nodes) e = join_node-apart head other children inner nodes (ap (λ layer. both_layers layer (layer_of other)) e)

-- and none is joined to it
pub before-node : (head other : Head) (children inner : ViewNodes) (nodes : List ViewNode) → layer_of other ≡ None
    → join_node (element head children) (element other inner ∷ nodes) ≡ element head children ∷ element other inner ∷ nodes
before-node head other children inner nodes e =
    join_node-apart head other children inner nodes (ap (both_layers (layer_of head)) e ∙ both_layers-none (layer_of head))

character-joins : (scalar : ℕ) (nodes : List ViewNode) → character_before scalar nodes ≡ join_node (text (scalar ∷ [])) nodes
character-joins scalar [] = refl
character-joins scalar (text scalars ∷ nodes) = refl
character-joins scalar (element head children ∷ nodes) = refl

-- a content before nodes is joined to them
content-joins : (content : Content) (nodes : List ViewNode) → is_plain content ≡ true → content_before content nodes ≡ join (content_before content []) nodes
content-joins (leaf (text scalars)) nodes p = cc
content-joins (leaf (element head children)) nodes p = sym (node-stays head children nodes (leaf_none head p))
content-joins (item (text scalars)) nodes p = cc
content-joins (item (element head children)) nodes p = sym (node-stays head children nodes (item_none head p))
content-joins (character scalar) nodes p = character-joins scalar nodes
content-joins caret nodes p = cc

-- an attribute element stands before a content without layers
layer-before : (head : Head) (children : ViewNodes) (content : Content) (nodes : List ViewNode) → is_plain content ≡ true
    → join_node (element head children) (content_before content nodes) ≡ element head children ∷ content_before content nodes
layer-before head children (leaf (text scalars)) nodes p = cc
layer-before head children (leaf (element other inner)) nodes p = before-node head other children inner nodes (leaf_none other p)
layer-before head children (item (text scalars)) nodes p = cc
layer-before head children (item (element other inner)) nodes p = before-node head other children inner nodes (item_none other p)
layer-before head children (character scalar) [] p = refl
layer-before head children (character scalar) (text scalars ∷ nodes) p = refl
layer-before head children (character scalar) (element other inner ∷ nodes) p = refl
layer-before head children caret nodes p = cc

pub join-in_layer : (layer other : Layer) (nodes inner rest : List ViewNode) → same_layer layer other ≡ true
    → join_node (in_layer layer nodes) (in_layer other inner ∷ rest) ≡ in_layer layer (join nodes inner) ∷ rest
join-in_layer layer other nodes inner rest e =
    join_node-joins (layer_head layer) (layer_head other) (nodes_of nodes) (nodes_of inner) rest e
    ∙ ap (λ made. element (layer_head layer) (nodes_of made) ∷ rest)
    (join_inner-is (nodes_of nodes) (list_of (nodes_of inner)) ∙ (λ i. join (list_of-nodes_of nodes i) (list_of-nodes_of inner i)))

-- what an entry puts before the pieces behind it is joined to them
put-joins : (layers : List Layer) (content : Content) (pieces : Pieces) → is_plain content ≡ true → PlainPieces pieces
    → shown (put layers content pieces) ≡ join (shown (put layers content nothing)) (shown pieces)
put-joins [] content pieces p h = content-joins content (shown pieces) p
put-joins (layer ∷ layers) content nothing p h = refl
put-joins (layer ∷ layers) content (first (bare next) pieces) p h = sym (layer-before _ _ next (shown pieces) h.0)
put-joins (layer ∷ layers) content (first (wrapped other inner) pieces) p h =
    elim (same_layer layer other) as (λ b. same_layer layer other ≡ b
    → shown (if b then first (wrapped layer (put layers content inner)) pieces
    else first (wrapped layer (put layers content nothing)) (first (wrapped other inner) pieces))
    ≡ join_node (in_layer layer (shown (put layers content nothing))) (in_layer other (shown inner) ∷ shown pieces)) [
      | true ↦ λ e.
          ap (λ nodes. in_layer layer nodes ∷ shown pieces) (put-joins layers content inner p h.0)
          ∙ sym (join-in_layer layer other (shown (put layers content nothing)) (shown inner) (shown pieces) e)
      | false ↦ λ e. sym (join_node-apart (layer_head layer) (layer_head other) _ _ (shown pieces) e)
    ] refl

-- the first entry of a row, nested alone, is joined to what the rest nests to
pub nest-cons : (entry : Entry) (row : List Entry) → IsPlainRow (entry ∷ row) → nest (entry ∷ row) ≡ join (nest (entry ∷ [])) (nest row)
nest-cons entry row h = put-joins entry.layers entry.content (pieces_of row) h.0 (plain-pieces row h.1)

pub plain-append : (row other : List Entry) → IsPlainRow row → IsPlainRow other → IsPlainRow (row ++ other)
plain-append [] other h k = k
plain-append (entry ∷ row) other h k = (h.0, plain-append row other h.1 k)

-- two rows nest to what each nests to, joined
pub nest-append : (row other : List Entry) → IsPlainRow row → IsPlainRow other → nest (row ++ other) ≡ join (nest row) (nest other)
nest-append [] other h k = refl
nest-append (entry ∷ row) other h k =
    nest-cons entry (row ++ other) (h.0, plain-append row other h.1 k)
    ∙ ap (join (nest (entry ∷ []))) (nest-append row other h.1 k)
    ∙ join-assoc (nest (entry ∷ [])) (nest row) (nest other)
    ∙ ap (λ nodes. join nodes (nest other)) (sym (nest-cons entry row h))
