-- The caret in a row: the pieces before it and those behind it meet there.
use Rattle.std.proofs.Common.{◌≡◌, ℕ, List, [], ◌∷◌, ◌++◌, true, false, if◌then◌else◌, Some, None, refl, sym, ap, ◌∙◌}
use Rattle.view_definitions.specs.Node.{Head, ViewNode, ViewNodes, text, element, list_of, nodes_of}
use Rattle.view_definitions.specs.NodeCode.{list_of-nodes_of}
use Rattle.view_definitions.specs.Layer.{Layer, same_layer, layer_of, in_layer}
use Rattle.view_definitions.specs.Row.{Content, leaf, item, character, caret, Entry, Piece, Pieces, nothing, first, bare, wrapped, put, pieces_of}
use Rattle.view_definitions.specs.Row.{character_before, shown, both_layers}
use Rattle.view_definitions.proofs.Layers.{same_layer-true, same_layer-itself}
use Rattle.view_definitions.proofs.Joins.{PlainPieces, leaf_none, item_none}
use Rattle.view_tree.specs.Changes.{inner_of}
use Rattle.down_whole.specs.Between.{Opened, is_in, opened_if, opened_first, text_before, between}

same_both : (layer other : Layer) → same_layer layer other ≡ same_layer other layer
same_both layer other =
    elim (same_layer layer other) as (λ b. same_layer layer other ≡ b → b ≡ same_layer other layer) [
      | true ↦ λ e. sym (same_layer-itself layer) ∙ ap (λ l. same_layer l layer) (same_layer-true layer other e)
      | false ↦ λ e. elim (same_layer other layer) as (λ b. same_layer other layer ≡ b → false ≡ b) [
        | true ↦ λ f. sym e ∙ ap (same_layer layer) (same_layer-true other layer f) ∙ same_layer-itself layer
        | false ↦ λ f. refl
      ] refl
    ] refl

-- what the first piece has in it, if it is this layer, and what is left without it
abbrev pub inner_first : Layer → Pieces → Pieces
inner_first layer nothing = nothing
inner_first layer (first (bare content) pieces) = nothing
inner_first layer (first (wrapped other inner) pieces) = if same_layer layer other then inner else nothing

abbrev pub without_first : Layer → Pieces → Pieces
without_first layer nothing = nothing
without_first layer (first (bare content) pieces) = first (bare content) pieces
without_first layer (first (wrapped other inner) pieces) = if same_layer layer other then pieces else first (wrapped other inner) pieces

pub put-is : (layer : Layer) (layers : List Layer) (content : Content) (pieces : Pieces)
    → put (layer ∷ layers) content pieces ≡ first (wrapped layer (put layers content (inner_first layer pieces))) (without_first layer pieces)
put-is layer layers content nothing = refl
put-is layer layers content (first (bare next) pieces) = refl
put-is layer layers content (first (wrapped other inner) pieces) =
    elim (same_layer layer other) as
    (λ b. (if b then first (wrapped layer (put layers content inner)) pieces
    else first (wrapped layer (put layers content nothing)) (first (wrapped other inner) pieces))
    ≡ first (wrapped layer (put layers content (if b then inner else nothing))) (if b then pieces else first (wrapped other inner) pieces))
    [ true ↦ refl | false ↦ refl ]

abbrev mutual
  -- the caret in these layers between pieces
  pub around : Pieces → List Layer → Pieces → Pieces
  around nothing layers right = put layers caret right
  around (first piece nothing) layers right = behind piece layers right
  around (first piece (first next rest)) layers right = first piece (around (first next rest) layers right)

  -- and behind a piece
  pub behind : Piece → List Layer → Pieces → Pieces
  behind (bare content) layers right = first (bare content) (put layers caret right)
  behind (wrapped other inner) [] right = first (wrapped other inner) (put [] caret right)
  behind (wrapped other inner) (layer ∷ layers) right =
      if same_layer layer other then first (wrapped other (around inner layers (inner_first layer right))) (without_first layer right)
      else first (wrapped other inner) (put (layer ∷ layers) caret right)

-- what a content puts before a layer
abbrev pub put_before : Layer → List Layer → Content → Layer → Pieces → Pieces → Pieces
put_before layer layers content other inner pieces =
    if same_layer layer other then first (wrapped layer (put layers content inner)) pieces
    else first (wrapped layer (put layers content nothing)) (first (wrapped other inner) pieces)

along : (layer other third : Layer) → same_layer layer other ≡ true → same_layer third layer ≡ same_layer third other
along layer other third e = ap (same_layer third) (same_layer-true layer other e)

-- an entry before the caret
pub put-around : (layers : List Layer) (content : Content) (left : Pieces) (caret_layers : List Layer) (right : Pieces)
    → put layers content (around left caret_layers right) ≡ around (put layers content left) caret_layers right
put-around [] content nothing caret_layers right = refl
put-around [] content (first piece pieces) caret_layers right = refl
put-around (layer ∷ layers) content nothing [] right = refl
put-around (layer ∷ layers) content nothing (outer ∷ inside) right =
    ap (put (layer ∷ layers) content) (put-is outer inside caret right)
    ∙ elim (same_layer layer outer) as (λ b. same_layer layer outer ≡ b
    → (if b then first (wrapped layer (put layers content (put inside caret (inner_first outer right)))) (without_first outer right)
    else first (wrapped layer (put layers content nothing)) (first (wrapped outer (put inside caret (inner_first outer right))) (without_first outer right)))
    ≡ (if b then first (wrapped layer (around (put layers content nothing) inside (inner_first outer right))) (without_first outer right)
    else first (wrapped layer (put layers content nothing)) (put (outer ∷ inside) caret right))) [
      | true ↦ λ e. ap (λ made. first (wrapped layer made) (without_first outer right)) (put-around layers content nothing inside (inner_first outer right))
      | false ↦ λ e. ap (first (wrapped layer (put layers content nothing))) (sym (put-is outer inside caret right))
    ] refl
    ∙ ap (λ b. if b then first (wrapped layer (around (put layers content nothing) inside (inner_first outer right))) (without_first outer right)
    else first (wrapped layer (put layers content nothing)) (put (outer ∷ inside) caret right)) (same_both layer outer)
put-around (layer ∷ layers) content (first (bare next) nothing) caret_layers right = refl
put-around (layer ∷ layers) content (first (bare next) (first piece pieces)) caret_layers right = refl
put-around (layer ∷ layers) content (first (wrapped other inner) (first piece pieces)) caret_layers right =
    elim (same_layer layer other) as (λ b. (if b then first (wrapped layer (put layers content inner)) (around (first piece pieces) caret_layers right)
    else first (wrapped layer (put layers content nothing)) (first (wrapped other inner) (around (first piece pieces) caret_layers right)))
    ≡ around (if b then first (wrapped layer (put layers content inner)) (first piece pieces)
    else first (wrapped layer (put layers content nothing)) (first (wrapped other inner) (first piece pieces))) caret_layers right) [
      | true ↦ refl
      | false ↦ refl
    ]
put-around (layer ∷ layers) content (first (wrapped other inner) nothing) [] right =
    elim (same_layer layer other) as (λ b. (if b then first (wrapped layer (put layers content inner)) (put [] caret right)
    else first (wrapped layer (put layers content nothing)) (first (wrapped other inner) (put [] caret right)))
    ≡ around (if b then first (wrapped layer (put layers content inner)) nothing
    else first (wrapped layer (put layers content nothing)) (first (wrapped other inner) nothing)) [] right) [ true ↦ refl | false ↦ refl ]
put-around (layer ∷ layers) content (first (wrapped other inner) nothing) (outer ∷ inside) right =
    elim (same_layer outer other) as (λ b. same_layer outer other ≡ b
    → put (layer ∷ layers) content (if b then first (wrapped other (around inner inside (inner_first outer right))) (without_first outer right)
    else first (wrapped other inner) (put (outer ∷ inside) caret right))
    ≡ around (put_before layer layers content other inner nothing) (outer ∷ inside) right) [
      | true ↦ λ e. elim (same_layer layer other) as (λ c. same_layer layer other ≡ c
          → (if c then first (wrapped layer (put layers content (around inner inside (inner_first outer right)))) (without_first outer right)
          else first (wrapped layer (put layers content nothing))
          (first (wrapped other (around inner inside (inner_first outer right))) (without_first outer right)))
          ≡ around (if c then first (wrapped layer (put layers content inner)) nothing
          else first (wrapped layer (put layers content nothing)) (first (wrapped other inner) nothing)) (outer ∷ inside) right) [
            | true ↦ λ f.
                ap (λ made. first (wrapped layer made) (without_first outer right)) (put-around layers content inner inside (inner_first outer right))
                ∙ ap (λ b. if b then first (wrapped layer (around (put layers content inner) inside (inner_first outer right)))
                (without_first outer right) else first (wrapped layer (put layers content inner)) (put (outer ∷ inside) caret right))
                (sym (along layer other outer f ∙ e))
            | false ↦ λ f. ap (first (wrapped layer (put layers content nothing)))
                (ap (λ b. if b then first (wrapped other (around inner inside (inner_first outer right))) (without_first outer right)
                else first (wrapped other inner) (put (outer ∷ inside) caret right)) (sym e))
          ] refl
      | false ↦ λ e. elim (same_layer layer other) as (λ c. same_layer layer other ≡ c
          → (if c then first (wrapped layer (put layers content inner)) (put (outer ∷ inside) caret right)
          else first (wrapped layer (put layers content nothing)) (first (wrapped other inner) (put (outer ∷ inside) caret right)))
          ≡ around (if c then first (wrapped layer (put layers content inner)) nothing
          else first (wrapped layer (put layers content nothing)) (first (wrapped other inner) nothing)) (outer ∷ inside) right) [
            | true ↦ λ f.
                ap (λ b. if b then first (wrapped layer (around (put layers content inner) inside (inner_first outer right)))
                (without_first outer right) else first (wrapped layer (put layers content inner)) (put (outer ∷ inside) caret right))
                (sym (along layer other outer f ∙ e))
            | false ↦ λ f. ap (first (wrapped layer (put layers content nothing)))
                (ap (λ b. if b then first (wrapped other (around inner inside (inner_first outer right))) (without_first outer right)
                else first (wrapped other inner) (put (outer ∷ inside) caret right)) (sym e))
          ] refl
    ] refl

-- an entry that is the caret
abbrev pub caret_in : List Layer → Entry
caret_in layers = record { content = caret; layers = layers }

-- a row with the caret in it
pub pieces-around : (row : List Entry) (layers : List Layer) (other : List Entry) → pieces_of (row ++ caret_in layers ∷ other)
    ≡ around (pieces_of row) layers (pieces_of other)
pieces-around [] layers other = refl
pieces-around (entry ∷ row) layers other =
    ap (put entry.layers entry.content) (pieces-around row layers other) ∙ put-around entry.layers entry.content (pieces_of row) layers (pieces_of other)

-- ---- the nodes

is_in-layer : (layer other : Layer) (nodes : List ViewNode) → is_in layer (in_layer other nodes) ≡ same_layer layer other
is_in-layer layer other nodes = refl

-- an element that is no layer is not this one
pub none_is : (layer : Layer) (head : Head) → layer_of head ≡ None → both_layers (Some layer) (layer_of head) ≡ false
none_is layer head e = ap (both_layers (Some layer)) e

text_first : (layer : Layer) (scalar : ℕ) (nodes : List ViewNode) → opened_first layer (character_before scalar nodes) ≡ (character_before scalar nodes, [])
text_first layer scalar [] = refl
text_first layer scalar (text scalars ∷ nodes) = refl
text_first layer scalar (element head children ∷ nodes) = refl

element_first : (layer : Layer) (head : Head) (children : ViewNodes) (nodes : List ViewNode) → layer_of head ≡ None
    → opened_first layer (element head children ∷ nodes) ≡ (element head children ∷ nodes, [])
element_first layer head children nodes e = ap (λ b. opened_if b nodes (list_of children) (element head children ∷ nodes)) (none_is layer head e)

-- what stands first among the nodes that pieces are
pub first-shown : (layer : Layer) (pieces : Pieces) → PlainPieces pieces → opened_first layer (shown pieces)
    ≡ (shown (without_first layer pieces), shown (inner_first layer pieces))
first-shown layer nothing p = refl
first-shown layer (first (bare (leaf (text scalars))) pieces) p = absurd cc
first-shown layer (first (bare (leaf (element head children))) pieces) p = element_first layer head children (shown pieces) (leaf_none head p.0)
first-shown layer (first (bare (item (text scalars))) pieces) p = absurd cc
first-shown layer (first (bare (item (element head children))) pieces) p = element_first layer head children (shown pieces) (item_none head p.0)
first-shown layer (first (bare (character scalar)) pieces) p = text_first layer scalar (shown pieces)
first-shown layer (first (bare caret) pieces) p = absurd cc
first-shown layer (first (wrapped other inner) pieces) p =
    elim (same_layer layer other) as (λ b. (opened_if b (shown pieces) (list_of (nodes_of (shown inner))) (in_layer other (shown inner) ∷ shown pieces))
    ≡ (shown (if b then pieces else first (wrapped other inner) pieces), shown (if b then inner else nothing))) [
      | true ↦ ap (λ nodes. (shown pieces, nodes)) (list_of-nodes_of (shown inner))
      | false ↦ refl
    ]

pub inner-plain : (layer : Layer) (pieces : Pieces) → PlainPieces pieces → PlainPieces (inner_first layer pieces)
inner-plain layer nothing p = tt
inner-plain layer (first (bare content) pieces) p = tt
inner-plain layer (first (wrapped other inner) pieces) p = elim (same_layer layer other) as (λ b. PlainPieces (if b then inner else nothing))
    [ true ↦ p.0 | false ↦ tt ]

-- the caret before pieces
pub shown-put : (layers : List Layer) (pieces : Pieces) → PlainPieces pieces → shown (put layers caret pieces) ≡ between [] layers (shown pieces)
shown-put [] pieces p = refl
shown-put (layer ∷ layers) pieces p =
    ap shown (put-is layer layers caret pieces)
    ∙ ap (λ nodes. in_layer layer nodes ∷ shown (without_first layer pieces)) (shown-put layers (inner_first layer pieces) (inner-plain layer pieces p))
    ∙ ap (λ (opened : Opened). in_layer layer (between [] layers opened.1) ∷ opened.0) (sym (first-shown layer pieces p))

-- behind a node that is no layer the caret stands for itself
stands : (node : ViewNode) (layers : List Layer) (right : List ViewNode) → ((layer : Layer) → is_in layer node ≡ false)
    → ((nodes : List ViewNode) → text_before node nodes ≡ node ∷ nodes)
    → between (node ∷ []) layers right ≡ node ∷ between [] layers right
stands node [] right apart alone = alone right
stands node (layer ∷ layers) right apart alone =
    ap (λ b. (opened_if b [] (inner_of node) (node ∷ [])).0
    ++ (in_layer layer (between (opened_if b [] (inner_of node) (node ∷ [])).1 layers (opened_first layer right).1) ∷ (opened_first layer right).0))
    (apart layer)

-- and in front of several nodes the first one stays
pub one_more : (node next : ViewNode) (rest : List ViewNode) (layers : List Layer) (right : List ViewNode) → between (node ∷ next ∷ rest) layers right
    ≡ node ∷ between (next ∷ rest) layers right
one_more node next rest [] right = refl
one_more node next rest (layer ∷ layers) right = refl

character_in : (scalar : ℕ) (node : ViewNode) (layers : List Layer) (right : List ViewNode) → character_before scalar (between (node ∷ []) layers right)
    ≡ between (character_before scalar (node ∷ [])) layers right
character_in scalar (text scalars) [] [] = refl
character_in scalar (text scalars) [] (text more_scalars ∷ nodes) = refl
character_in scalar (text scalars) [] (element head children ∷ nodes) = refl
character_in scalar (text scalars) (layer ∷ layers) right = refl
character_in scalar (element head children) [] right = refl
character_in scalar (element head children) (layer ∷ layers) right =
    elim (is_in layer (element head children)) as
    (λ b. character_before scalar ((opened_if b [] (list_of children) (element head children ∷ [])).0
    ++ (in_layer layer (between (opened_if b [] (list_of children) (element head children ∷ [])).1 layers (opened_first layer right).1)
    ∷ (opened_first layer right).0))
    ≡ text (scalar ∷ []) ∷ ((opened_if b [] (list_of children) (element head children ∷ [])).0
    ++ (in_layer layer (between (opened_if b [] (list_of children) (element head children ∷ [])).1 layers (opened_first layer right).1)
    ∷ (opened_first layer right).0))) [ true ↦ refl | false ↦ refl ]

-- a character before nodes that the caret is behind
pub character-between : (scalar : ℕ) (node : ViewNode) (rest : List ViewNode) (layers : List Layer) (right : List ViewNode)
    → character_before scalar (between (node ∷ rest) layers right) ≡ between (character_before scalar (node ∷ rest)) layers right
character-between scalar node [] layers right = character_in scalar node layers right
character-between scalar (text scalars) (next ∷ rest) [] right = refl
character-between scalar (text scalars) (next ∷ rest) (layer ∷ layers) right = refl
character-between scalar (element head children) (next ∷ rest) [] right = refl
character-between scalar (element head children) (next ∷ rest) (layer ∷ layers) right = refl

character_alone : (scalar : ℕ) (layers : List Layer) (right : List ViewNode) → character_before scalar (between [] layers right)
    ≡ between (text (scalar ∷ []) ∷ []) layers right
character_alone scalar [] [] = refl
character_alone scalar [] (text more_scalars ∷ nodes) = refl
character_alone scalar [] (element head children ∷ nodes) = refl
character_alone scalar (layer ∷ layers) right = refl

-- pieces without the caret show a node
pub some-shown : (piece : Piece) (pieces : Pieces) (P : List ViewNode → Type 0) → PlainPieces (first piece pieces)
    → ((node : ViewNode) (nodes : List ViewNode) → P (node ∷ nodes)) → P (shown (first piece pieces))
some-shown (bare (leaf node)) pieces P p h = h _ _
some-shown (bare (item node)) pieces P p h = h _ _
some-shown (bare (character scalar)) pieces P p h = before_some (shown pieces)
  where
    before_some : (nodes : List ViewNode) → P (character_before scalar nodes)
    before_some [] = h _ _
    before_some (text scalars ∷ nodes) = h _ _
    before_some (element head children ∷ nodes) = h _ _
some-shown (bare caret) pieces P p h = absurd cc
some-shown (wrapped layer inner) pieces P p h = h _ _

-- a node in front of several pieces
front : (node : ViewNode) (piece : Piece) (pieces : Pieces) (layers : List Layer) (right : List ViewNode) → PlainPieces (first piece pieces)
    → between (node ∷ shown (first piece pieces)) layers right ≡ node ∷ between (shown (first piece pieces)) layers right
front node piece pieces layers right p =
    some-shown piece pieces (λ nodes. between (node ∷ nodes) layers right ≡ node ∷ between nodes layers right) p
    (λ next rest. one_more node next rest layers right)

-- behind a layer
layer_behind : (other layer : Layer) (inner : Pieces) (layers : List Layer) (right : Pieces) → PlainPieces right
    → shown (around inner layers (inner_first layer right)) ≡ between (shown inner) layers (shown (inner_first layer right))
    → shown (behind (wrapped other inner) (layer ∷ layers) right) ≡ between (in_layer other (shown inner) ∷ []) (layer ∷ layers) (shown right)
layer_behind other layer inner layers right p h =
    elim (same_layer layer other) as (λ b. same_layer layer other ≡ b
    → shown (if b then first (wrapped other (around inner layers (inner_first layer right))) (without_first layer right)
    else first (wrapped other inner) (put (layer ∷ layers) caret right))
    ≡ (opened_if b [] (list_of (nodes_of (shown inner))) (in_layer other (shown inner) ∷ [])).0
    ++ (in_layer layer (between (opened_if b [] (list_of (nodes_of (shown inner))) (in_layer other (shown inner) ∷ [])).1 layers
    (opened_first layer (shown right)).1) ∷ (opened_first layer (shown right)).0)) [
      | true ↦ λ e.
          ap (λ nodes. in_layer other nodes ∷ shown (without_first layer right)) h
          ∙ (λ i. in_layer (sym (same_layer-true layer other e) i)
          (between (sym (list_of-nodes_of (shown inner)) i) layers (sym (first-shown layer right p) i).1) ∷ (sym (first-shown layer right p) i).0)
      | false ↦ λ e. ap (λ nodes. in_layer other (shown inner) ∷ nodes) (shown-put (layer ∷ layers) right p)
    ] refl

mutual
  -- the nodes of a row with the caret in it
  pub shown-around : (left : Pieces) (layers : List Layer) (right : Pieces) → PlainPieces left → PlainPieces right → shown (around left layers right)
      ≡ between (shown left) layers (shown right)
  shown-around nothing layers right l p = shown-put layers right p
  shown-around (first piece nothing) layers right l p = shown-behind piece layers right l p
  shown-around (first (bare (leaf node)) (first next rest)) layers right l p =
      ap (λ nodes. node ∷ nodes) (shown-around (first next rest) layers right l.1 p) ∙ sym (front node next rest layers (shown right) l.1)
  shown-around (first (bare (item node)) (first next rest)) layers right l p =
      ap (λ nodes. node ∷ nodes) (shown-around (first next rest) layers right l.1 p) ∙ sym (front node next rest layers (shown right) l.1)
  shown-around (first (bare (character scalar)) (first next rest)) layers right l p =
      ap (character_before scalar) (shown-around (first next rest) layers right l.1 p)
      ∙ some-shown next rest (λ nodes. character_before scalar (between nodes layers (shown right))
      ≡ between (character_before scalar nodes) layers (shown right)) l.1
      (λ node nodes. character-between scalar node nodes layers (shown right))
  shown-around (first (bare caret) (first next rest)) layers right l p = absurd cc
  shown-around (first (wrapped other inner) (first next rest)) layers right l p =
      ap (λ nodes. in_layer other (shown inner) ∷ nodes) (shown-around (first next rest) layers right l.1 p)
      ∙ sym (front (in_layer other (shown inner)) next rest layers (shown right) l.1)

  shown-behind : (piece : Piece) (layers : List Layer) (right : Pieces) → PlainPieces (first piece nothing) → PlainPieces right
      → shown (behind piece layers right) ≡ between (shown (first piece nothing)) layers (shown right)
  shown-behind (bare (leaf (text scalars))) layers right l p = absurd cc
  shown-behind (bare (leaf (element head children))) layers right l p =
      ap (λ nodes. element head children ∷ nodes) (shown-put layers right p)
      ∙ sym (stands (element head children) layers (shown right) (λ layer. none_is layer head (leaf_none head l.0)) (λ nodes. refl))
  shown-behind (bare (item (text scalars))) layers right l p = absurd cc
  shown-behind (bare (item (element head children))) layers right l p =
      ap (λ nodes. element head children ∷ nodes) (shown-put layers right p)
      ∙ sym (stands (element head children) layers (shown right) (λ layer. none_is layer head (item_none head l.0)) (λ nodes. refl))
  shown-behind (bare (character scalar)) layers right l p =
      ap (character_before scalar) (shown-put layers right p) ∙ character_alone scalar layers (shown right)
  shown-behind (bare caret) layers right l p = absurd cc
  shown-behind (wrapped other inner) [] right l p = refl
  shown-behind (wrapped other inner) (layer ∷ layers) right l p =
      layer_behind other layer inner layers right p (shown-around inner layers (inner_first layer right) l.0 (inner-plain layer right p))
