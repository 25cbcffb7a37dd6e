-- Rows that differ in the numbers of their items alone nest to nodes that do.
use Rattle.std.proofs.Common.{◌≡◌, ℕ, ◌+◌, List, [], ◌∷◌, length, true, false, refl, sym, ap, ◌∙◌, subst, arith}
use Rattle.std.specs.Prelude.{if◌then◌else◌}
use Rattle.view_definitions.specs.Node.{Kind, container, attribute, empty, ui, ViewNode, ViewNodes, text, element, list_of, nodes_of}
use Rattle.view_definitions.specs.Layer.{Layer, same_layer}
use Rattle.view_definitions.specs.Row.{Content, leaf, item, character, caret, Entry, Piece, Pieces, nothing, first, bare, wrapped, put, pieces_of}
use Rattle.view_definitions.specs.Row.{character_before, content_before, shown, nest, is_item_kind}
use Rattle.downcast_definitions.specs.Meant.{length_by_kind, inner_length, Inners}
use Rattle.pos_mapper.specs.Reading.{Slots}
use Rattle.pos_mapper.proofs.Walk.{ByKind, IsRead, Match}
use Rattle.downcast_definitions.proofs.Entries.{item-length, character-counts}

-- how many items a content, pieces and a row show
abbrev pub counted : Content → ℕ
counted (leaf node) = 0
counted (item node) = 1
counted (character scalar) = 1
counted caret = 0

abbrev mutual
  piece_items : Piece → ℕ
  piece_items (bare content) = counted content
  piece_items (wrapped layer inner) = pieces_items inner

  pub pieces_items : Pieces → ℕ
  pieces_items nothing = 0
  pieces_items (first piece pieces) = piece_items piece + pieces_items pieces

abbrev pub row_items : List Entry → ℕ
row_items [] = 0
row_items (entry ∷ row) = counted entry.content + row_items row

items-put : (layers : List Layer) (content : Content) (pieces : Pieces) → pieces_items (put layers content pieces) ≡ counted content + pieces_items pieces
items-put [] content pieces = refl
items-put (layer ∷ layers) content nothing = (let e : pieces_items (put layers content nothing) ≡ counted content + 0 = items-put layers content nothing
    in omega (arith, e))
items-put (layer ∷ layers) content (first (bare next) pieces) =
    (let e : pieces_items (put layers content nothing) ≡ counted content + 0 = items-put layers content nothing in omega (arith, e))
items-put (layer ∷ layers) content (first (wrapped other inner) pieces) =
    let kids : pieces_items (put layers content inner) ≡ counted content + pieces_items inner = items-put layers content inner in
    let alone : pieces_items (put layers content nothing) ≡ counted content + 0 = items-put layers content nothing in
    elim (same_layer layer other) as (λ b. pieces_items (if b then first (wrapped layer (put layers content inner)) pieces
    else first (wrapped layer (put layers content nothing)) (first (wrapped other inner) pieces))
    ≡ counted content + (pieces_items inner + pieces_items pieces)) [
      | true ↦ omega (arith, kids)
      | false ↦ omega (arith, alone)
    ]

pub items-row : (row : List Entry) → pieces_items (pieces_of row) ≡ row_items row
items-row [] = refl
items-row (entry ∷ row) = items-put entry.layers entry.content (pieces_of row) ∙ ap (λ n. counted entry.content + n) (items-row row)

module _ (slots : Slots) (inners : Inners) (depth : ℕ) where
  -- ---- that they differ in numbers alone

  abbrev IsLeaf : ViewNode → Type 0
  IsLeaf (text scalars) = ⊥
  IsLeaf (element head children) = head.kind ≡ ui

  abbrev pub MatchItem : ℕ → ViewNode → ViewNode → Type 0
  MatchItem offset (text scalars) other = ⊥
  MatchItem offset (element head children) (text others) = ⊥
  MatchItem offset (element head children) (element other inner) =
      (head.kind ≡ other.kind) × (is_item_kind other.kind ≡ true) × IsRead slots inners depth offset (list_of children) head.number

  abbrev pub MatchContent : ℕ → Content → Content → Type 0
  MatchContent offset (leaf node) (leaf other) = (node ≡ other) × IsLeaf other
  MatchContent offset (leaf node) (item other) = ⊥
  MatchContent offset (leaf node) (character other) = ⊥
  MatchContent offset (leaf node) caret = ⊥
  MatchContent offset (item node) (leaf other) = ⊥
  MatchContent offset (item node) (item other) = MatchItem offset node other
  MatchContent offset (item node) (character other) = ⊥
  MatchContent offset (item node) caret = ⊥
  MatchContent offset (character scalar) (leaf other) = ⊥
  MatchContent offset (character scalar) (item other) = ⊥
  MatchContent offset (character scalar) (character other) = scalar ≡ other
  MatchContent offset (character scalar) caret = ⊥
  MatchContent offset caret (leaf other) = ⊥
  MatchContent offset caret (item other) = ⊥
  MatchContent offset caret (character other) = ⊥
  MatchContent offset caret caret = Unit {0}

  abbrev mutual
    MatchPiece : ℕ → Piece → Piece → Type 0
    MatchPiece offset (bare content) (bare other) = MatchContent offset content other
    MatchPiece offset (bare content) (wrapped layer inner) = ⊥
    MatchPiece offset (wrapped layer inner) (bare other) = ⊥
    MatchPiece offset (wrapped layer inner) (wrapped other kids) = (layer ≡ other) × MatchPieces offset inner kids

    MatchPieces : ℕ → Pieces → Pieces → Type 0
    MatchPieces offset nothing nothing = Unit {0}
    MatchPieces offset nothing (first other others) = ⊥
    MatchPieces offset (first piece pieces) nothing = ⊥
    MatchPieces offset (first piece pieces) (first other others) = MatchPiece offset piece other × MatchPieces (offset + piece_items other) pieces others

  abbrev pub MatchRow : ℕ → List Entry → List Entry → Type 0
  MatchRow offset [] [] = Unit {0}
  MatchRow offset [] (other ∷ others) = ⊥
  MatchRow offset (entry ∷ row) [] = ⊥
  MatchRow offset (entry ∷ row) (other ∷ others) =
      (entry.layers ≡ other.layers) × MatchContent offset entry.content other.content × MatchRow (offset + counted other.content) row others

  -- ---- as pieces

  at : (offset place : ℕ) (pieces others : Pieces) → offset ≡ place → MatchPieces offset pieces others → MatchPieces place pieces others
  at offset place pieces others e m = subst (λ n. MatchPieces n pieces others) e m

  match-put : (layers : List Layer) (offset : ℕ) (content other : Content) (pieces others : Pieces) → MatchContent offset content other
      → MatchPieces (offset + counted other) pieces others
      → MatchPieces offset (put layers content pieces) (put layers other others)
  match-put [] offset content other pieces others c m = (c, m)
  match-put (layer ∷ layers) offset content other nothing nothing c m = ((refl, match-put layers offset content other nothing nothing c tt), tt)
  match-put (layer ∷ layers) offset content other nothing (first next others) c m = absurd m
  match-put (layer ∷ layers) offset content other (first piece pieces) nothing c m = absurd m
  match-put (layer ∷ layers) offset content other (first (bare next) pieces) (first (bare last) others) c m = (
    (refl, match-put layers offset content other nothing nothing c tt),
    at (offset + counted other) _ (first (bare next) pieces) (first (bare last) others)
        (let e : pieces_items (put layers other nothing) ≡ counted other + 0 = items-put layers other nothing in omega (arith, e)) m,
  )
  match-put (layer ∷ layers) offset content other (first (bare next) pieces) (first (wrapped outer kids) others) c m = absurd m.0
  match-put (layer ∷ layers) offset content other (first (wrapped outer kids) pieces) (first (bare last) others) c m = absurd m.0
  match-put (layer ∷ layers) offset content other (first (wrapped outer kids) pieces) (first (wrapped last inner) others) c m =
      let within : MatchPieces offset (put layers content kids) (put layers other inner) = match-put layers offset content other kids inner c m.0.1 in
      let alone : MatchPieces offset (put layers content nothing) (put layers other nothing) = match-put layers offset content other nothing nothing c tt in
      let items : pieces_items (put layers other inner) ≡ counted other + pieces_items inner = items-put layers other inner in
      let items_alone : pieces_items (put layers other nothing) ≡ counted other + 0 = items-put layers other nothing in
      subst (λ l. MatchPieces offset (if same_layer layer outer then first (wrapped layer (put layers content kids)) pieces
      else first (wrapped layer (put layers content nothing)) (first (wrapped outer kids) pieces)) (if same_layer layer l
      then first (wrapped layer (put layers other inner)) others
      else first (wrapped layer (put layers other nothing)) (first (wrapped l inner) others))) m.0.0
      (elim (same_layer layer outer) as (λ b. MatchPieces offset (if b then first (wrapped layer (put layers content kids)) pieces
      else first (wrapped layer (put layers content nothing)) (first (wrapped outer kids) pieces)) (if b
      then first (wrapped layer (put layers other inner)) others
      else first (wrapped layer (put layers other nothing)) (first (wrapped outer inner) others))) [
        | true ↦ ((refl, within), at (offset + counted other + pieces_items inner) _ pieces others (omega (arith, items)) m.1)
        | false ↦ (
          (refl, alone),
          at (offset + counted other) _ (first (wrapped outer kids) pieces) (first (wrapped outer inner) others)
              (omega (arith, items_alone)) ((refl, m.0.1), m.1),
        )
      ])

  pub match-pieces : (offset : ℕ) (row others : List Entry) → MatchRow offset row others → MatchPieces offset (pieces_of row) (pieces_of others)
  match-pieces offset [] [] m = tt
  match-pieces offset [] (other ∷ others) m = absurd m
  match-pieces offset (entry ∷ row) [] m = absurd m
  match-pieces offset (entry ∷ row) (other ∷ others) m =
      subst (λ layers. MatchPieces offset (put entry.layers entry.content (pieces_of row)) (put layers other.content (pieces_of others))) m.0
      (match-put entry.layers offset entry.content other.content (pieces_of row) (pieces_of others) m.1
      (match-pieces (offset + counted other.content) row others m.2))

  -- ---- as nodes

  move : (offset place : ℕ) (nodes others : ViewNodes) → offset ≡ place → Match slots inners depth offset nodes others
      → Match slots inners depth place nodes others
  move offset place nodes others e m = subst (λ n. Match slots inners depth n nodes others) e m

  item-inside : (kind : Kind) (Around Inside : Type 0) → is_item_kind kind ≡ true → Inside → ByKind kind Around Inside
  item-inside container Around Inside e i = i
  item-inside (attribute priority id) Around Inside e i = cc
  item-inside empty Around Inside e i = i
  item-inside ui Around Inside e i = cc

  match-character : (offset scalar other : ℕ) (nodes others : List ViewNode) → scalar ≡ other
      → Match slots inners depth (offset + 1) (nodes_of nodes) (nodes_of others)
      → Match slots inners depth offset (nodes_of (character_before scalar nodes)) (nodes_of (character_before other others))
  match-character offset scalar other [] [] e m = (ap (λ s. s ∷ []) e, tt)
  match-character offset scalar other [] (next ∷ others) e m = absurd m
  match-character offset scalar other (text scalars ∷ nodes) [] e m = absurd m
  match-character offset scalar other (element head children ∷ nodes) [] e m = absurd m
  match-character offset scalar other (text scalars ∷ nodes) (text last ∷ others) e m =
      ((λ i. e i ∷ m.0 i), move (offset + 1 + length last) _ (nodes_of nodes) (nodes_of others) (omega arith) m.1)
  match-character offset scalar other (text scalars ∷ nodes) (element last inner ∷ others) e m = absurd m.0
  match-character offset scalar other (element head children ∷ nodes) (text last ∷ others) e m = absurd m.0
  match-character offset scalar other (element head children ∷ nodes) (element last inner ∷ others) e m = (ap (λ s. s ∷ []) e, m)

  match-content : (offset : ℕ) (content other : Content) (nodes others : List ViewNode) → MatchContent offset content other
      → Match slots inners depth (offset + counted other) (nodes_of nodes) (nodes_of others)
      → Match slots inners depth offset (nodes_of (content_before content nodes)) (nodes_of (content_before other others))
  match-content offset (leaf (text scalars)) (leaf (text last)) nodes others c m = absurd c.1
  match-content offset (leaf (text scalars)) (leaf (element last inner)) nodes others c m = cc
  match-content offset (leaf (element head children)) (leaf (text last)) nodes others c m = absurd c.1
  match-content offset (leaf (element head children)) (leaf (element last inner)) nodes others c m =
      let kinds : head.kind ≡ last.kind = (let same : element head children ≡ element last inner = c.0 in cc) in (
        (
          kinds,
          subst (λ kind. ByKind kind (Match slots inners depth offset children inner)
              (IsRead slots inners depth offset (list_of children) head.number)) (sym c.1) tt,
        ),
        move (offset + 0) _ (nodes_of nodes) (nodes_of others) (ap (λ kind. offset + length_by_kind kind (inner_length inner)) (sym c.1)) m,
      )
  match-content offset (leaf node) (item last) nodes others c m = absurd c
  match-content offset (leaf node) (character last) nodes others c m = absurd c
  match-content offset (leaf node) caret nodes others c m = absurd c
  match-content offset (item node) (leaf last) nodes others c m = absurd c
  match-content offset (item (text scalars)) (item last) nodes others c m = absurd c
  match-content offset (item (element head children)) (item (text last)) nodes others c m = absurd c
  match-content offset (item (element head children)) (item (element last inner)) nodes others c m = (
    (c.0, item-inside last.kind _ _ c.1 c.2),
    move (offset + 1) _ (nodes_of nodes) (nodes_of others) (ap (λ n. offset + n) (sym (item-length last.kind (inner_length inner) c.1))) m,
  )
  match-content offset (item node) (character last) nodes others c m = absurd c
  match-content offset (item node) caret nodes others c m = absurd c
  match-content offset (character scalar) (leaf last) nodes others c m = absurd c
  match-content offset (character scalar) (item last) nodes others c m = absurd c
  match-content offset (character scalar) (character last) nodes others c m = match-character offset scalar last nodes others c m
  match-content offset (character scalar) caret nodes others c m = absurd c
  match-content offset caret (leaf last) nodes others c m = absurd c
  match-content offset caret (item last) nodes others c m = absurd c
  match-content offset caret (character last) nodes others c m = absurd c
  match-content offset caret caret nodes others c m = move (offset + 0) offset (nodes_of nodes) (nodes_of others) (omega arith) m

  -- ---- how many items the nodes show

  content-counts : (offset : ℕ) (content other : Content) (nodes : List ViewNode) → MatchContent offset content other
      → inner_length (nodes_of (content_before other nodes)) ≡ counted other + inner_length (nodes_of nodes)
  content-counts offset (leaf node) (leaf (text last)) nodes c = absurd c.1
  content-counts offset (leaf node) (leaf (element last inner)) nodes c =
      ap (λ kind. length_by_kind kind (inner_length inner) + inner_length (nodes_of nodes)) c.1
  content-counts offset (leaf node) (item last) nodes c = absurd c
  content-counts offset (leaf node) (character last) nodes c = absurd c
  content-counts offset (leaf node) caret nodes c = absurd c
  content-counts offset (item node) (leaf last) nodes c = absurd c
  content-counts offset (item (text scalars)) (item last) nodes c = absurd c
  content-counts offset (item (element head children)) (item (text last)) nodes c = absurd c
  content-counts offset (item (element head children)) (item (element last inner)) nodes c = ap (λ n. n + inner_length (nodes_of nodes))
      (item-length last.kind (inner_length inner) c.1)
  content-counts offset (item node) (character last) nodes c = absurd c
  content-counts offset (item node) caret nodes c = absurd c
  content-counts offset (character scalar) (leaf last) nodes c = absurd c
  content-counts offset (character scalar) (item last) nodes c = absurd c
  content-counts offset (character scalar) (character last) nodes c = character-counts last nodes
  content-counts offset (character scalar) caret nodes c = absurd c
  content-counts offset caret (leaf last) nodes c = absurd c
  content-counts offset caret (item last) nodes c = absurd c
  content-counts offset caret (character last) nodes c = absurd c
  content-counts offset caret caret nodes c = omega arith

  mutual
    piece-counts : (offset : ℕ) (piece other : Piece) (pieces others : Pieces) → MatchPiece offset piece other → inner_length (nodes_of (shown others))
        ≡ pieces_items others
        → inner_length (nodes_of (shown (first other others))) ≡ piece_items other + pieces_items others
    piece-counts offset (bare content) (bare other) pieces others m ih = content-counts offset content other (shown others) m ∙ ap (λ n. counted other + n) ih
    piece-counts offset (bare content) (wrapped layer inner) pieces others m ih = absurd m
    piece-counts offset (wrapped layer inner) (bare other) pieces others m ih = absurd m
    piece-counts offset (wrapped layer inner) (wrapped other kids) pieces others m ih = λ i. shown-counts offset inner kids m.1 i + ih i

    pub shown-counts : (offset : ℕ) (pieces others : Pieces) → MatchPieces offset pieces others → inner_length (nodes_of (shown others)) ≡ pieces_items others
    shown-counts offset nothing nothing m = refl
    shown-counts offset nothing (first other others) m = absurd m
    shown-counts offset (first piece pieces) nothing m = absurd m
    shown-counts offset (first piece pieces) (first other others) m = piece-counts offset piece other pieces others m.0
        (shown-counts (offset + piece_items other) pieces others m.1)

  mutual
    match-piece : (offset : ℕ) (piece other : Piece) (pieces others : Pieces) → MatchPiece offset piece other
        → Match slots inners depth (offset + piece_items other) (nodes_of (shown pieces)) (nodes_of (shown others))
        → Match slots inners depth offset (nodes_of (shown (first piece pieces))) (nodes_of (shown (first other others)))
    match-piece offset (bare content) (bare other) pieces others m rest = match-content offset content other (shown pieces) (shown others) m rest
    match-piece offset (bare content) (wrapped layer inner) pieces others m rest = absurd m
    match-piece offset (wrapped layer inner) (bare other) pieces others m rest = absurd m
    match-piece offset (wrapped layer inner) (wrapped other kids) pieces others m rest = (
      ((λ i. attribute (m.0 i).priority (m.0 i).id), match-shown offset inner kids m.1),
      move (offset + pieces_items kids) _ (nodes_of (shown pieces)) (nodes_of (shown others))
          (ap (λ n. offset + n) (sym (shown-counts offset inner kids m.1))) rest,
    )

    pub match-shown : (offset : ℕ) (pieces others : Pieces) → MatchPieces offset pieces others
        → Match slots inners depth offset (nodes_of (shown pieces)) (nodes_of (shown others))
    match-shown offset nothing nothing m = tt
    match-shown offset nothing (first other others) m = absurd m
    match-shown offset (first piece pieces) nothing m = absurd m
    match-shown offset (first piece pieces) (first other others) m = match-piece offset piece other pieces others m.0
        (match-shown (offset + piece_items other) pieces others m.1)

  -- rows nest so
  pub match-nest : (offset : ℕ) (row others : List Entry) → MatchRow offset row others
      → Match slots inners depth offset (nodes_of (nest row)) (nodes_of (nest others))
  match-nest offset row others m = match-shown offset (pieces_of row) (pieces_of others) (match-pieces offset row others m)

  pub nest-counts : (offset : ℕ) (row others : List Entry) → MatchRow offset row others → inner_length (nodes_of (nest others)) ≡ row_items others
  nest-counts offset row others m = shown-counts offset (pieces_of row) (pieces_of others) (match-pieces offset row others m) ∙ items-row others
