-- A mark in a row: an entry more that is no node, in the layers of its neighbour, leaves the nodes as they are.
use Rattle.std.proofs.Common.{◌≡◌, ℕ, zero, suc, List, [], ◌∷◌, Bool, true, false, if◌then◌else◌, Option, Some, None, refl, ap, ◌∙◌, subst}
use Rattle.view_definitions.specs.Node.{ViewNode}
use Rattle.view_definitions.specs.Layer.{Layer, same_layer, in_layer}
use Rattle.view_definitions.specs.Row.{Content, leaf, item, character, caret, Entry, Piece, Pieces, nothing, first, bare, wrapped, put, pieces_of}
use Rattle.view_definitions.specs.Row.{content_before, shown, nest}
use Rattle.view_definitions.proofs.Layers.{same_layer-true, same_layer-itself}
use Rattle.downcast_definitions.specs.Seen.{of_character, character_layers_at, common, layers_at, layers_before, character_before, marked, between}

-- what stands in a layer at the beginning of pieces, and the pieces behind it
abbrev pub within_layer : Layer → Pieces → Pieces
within_layer layer nothing = nothing
within_layer layer (first (bare content) pieces) = nothing
within_layer layer (first (wrapped other inner) pieces) = if same_layer layer other then inner else nothing

abbrev pub behind_layer : Layer → Pieces → Pieces
behind_layer layer nothing = nothing
behind_layer layer (first (bare content) pieces) = first (bare content) pieces
behind_layer layer (first (wrapped other inner) pieces) = if same_layer layer other then pieces else first (wrapped other inner) pieces

-- a content in some layers is one piece before what stands behind the outermost layer
pub put-cons : (layer : Layer) (layers : List Layer) (content : Content) (pieces : Pieces)
    → put (layer ∷ layers) content pieces ≡ first (wrapped layer (put layers content (within_layer layer pieces))) (behind_layer layer pieces)
put-cons layer layers content nothing = refl
put-cons layer layers content (first (bare next) pieces) = refl
put-cons layer layers content (first (wrapped other inner) pieces) =
    elim (same_layer layer other) as
    (λ b. (if b then first (wrapped layer (put layers content inner)) pieces
    else first (wrapped layer (put layers content nothing)) (first (wrapped other inner) pieces))
    ≡ first (wrapped layer (put layers content (if b then inner else nothing))) (if b then pieces else first (wrapped other inner) pieces)) [
      | true ↦ refl
      | false ↦ refl
    ]

put-same : (layer : Layer) (layers : List Layer) (content : Content) (inner rest : Pieces)
    → put (layer ∷ layers) content (first (wrapped layer inner) rest) ≡ first (wrapped layer (put layers content inner)) rest
put-same layer layers content inner rest = rw (same_layer-itself layer) refl

-- two contents in one outermost layer
pub put-twice : (layer : Layer) (layers others : List Layer) (content next : Content) (pieces : Pieces)
    → put (layer ∷ layers) content (put (layer ∷ others) next pieces)
    ≡ first (wrapped layer (put layers content (put others next (within_layer layer pieces)))) (behind_layer layer pieces)
put-twice layer layers others content next pieces =
    ap (put (layer ∷ layers) content) (put-cons layer others next pieces) ∙ put-same layer layers content _ _

pub put-thrice : (layer : Layer) (layers others thirds : List Layer) (content next last : Content) (pieces : Pieces)
    → put (layer ∷ layers) content (put (layer ∷ others) next (put (layer ∷ thirds) last pieces))
    ≡ first (wrapped layer (put layers content (put others next (put thirds last (within_layer layer pieces))))) (behind_layer layer pieces)
put-thrice layer layers others thirds content next last pieces =
    ap (put (layer ∷ layers) content) (put-twice layer others thirds next last pieces) ∙ put-same layer layers content _ _

-- pieces that begin with no layer and are shown as these nodes
abbrev NoLayer : List ViewNode → Pieces → Type 0
NoLayer nodes nothing = nodes ≡ []
NoLayer nodes (first (bare content) pieces) = nodes ≡ content_before content (shown pieces)
NoLayer nodes (first (wrapped layer inner) pieces) = ⊥

-- pieces that begin with this layer
abbrev InLayer : (Pieces → Type 0) → Layer → List ViewNode → Pieces → Type 0
InLayer alike layer nodes nothing = ⊥
InLayer alike layer nodes (first (bare content) pieces) = ⊥
InLayer alike layer nodes (first (wrapped other inner) pieces) = (layer ≡ other) × alike inner × (nodes ≡ shown pieces)

abbrev mutual
  AlikePiece : Piece → Pieces → Pieces → Type 0
  AlikePiece (bare content) pieces others = NoLayer (content_before content (shown pieces)) others
  AlikePiece (wrapped layer inner) pieces others = InLayer (Alike inner) layer (shown pieces) others

  -- pieces that begin with the same layers and are shown as the same nodes: whatever is put before both, that stays so
  pub Alike : Pieces → Pieces → Type 0
  Alike nothing others = NoLayer [] others
  Alike (first piece pieces) others = AlikePiece piece pieces others

no_layer-shown : (nodes : List ViewNode) (others : Pieces) → NoLayer nodes others → nodes ≡ shown others
no_layer-shown nodes nothing h = h
no_layer-shown nodes (first (bare content) pieces) h = h
no_layer-shown nodes (first (wrapped layer inner) pieces) h = absurd h

mutual
  alike_piece-shown : (piece : Piece) (pieces others : Pieces) → AlikePiece piece pieces others → shown (first piece pieces) ≡ shown others
  alike_piece-shown (bare content) pieces others h = no_layer-shown _ others h
  alike_piece-shown (wrapped layer inner) pieces nothing h = absurd h
  alike_piece-shown (wrapped layer inner) pieces (first (bare content) rest) h = absurd h
  alike_piece-shown (wrapped layer inner) pieces (first (wrapped other kids) rest) h =
      let kids_too : shown inner ≡ shown kids = alike-shown inner kids h.1 in
      λ i. in_layer (h.0 i) (kids_too i) ∷ h.2 i

  -- they are shown as the same nodes
  pub alike-shown : (pieces others : Pieces) → Alike pieces others → shown pieces ≡ shown others
  alike-shown nothing others h = no_layer-shown _ others h
  alike-shown (first piece pieces) others h = alike_piece-shown piece pieces others h

mutual
  alike_piece-itself : (piece : Piece) (pieces : Pieces) → AlikePiece piece pieces (first piece pieces)
  alike_piece-itself (bare content) pieces = refl
  alike_piece-itself (wrapped layer inner) pieces = (refl, alike-itself inner, refl)

  pub alike-itself : (pieces : Pieces) → Alike pieces pieces
  alike-itself nothing = refl
  alike-itself (first piece pieces) = alike_piece-itself piece pieces

-- for each answer of the test on the layer, what stands in it is alike
if-alike : (b : Bool) (inner kids : Pieces) → Alike inner kids → Alike (if b then inner else nothing) (if b then kids else nothing)
if-alike true inner kids h = h
if-alike false inner kids h = refl

if-behind : (b : Bool) (inner kids pieces rest : Pieces) (layer other : Layer) → layer ≡ other → shown inner ≡ shown kids → shown pieces ≡ shown rest
    → shown (if b then pieces else first (wrapped layer inner) pieces) ≡ shown (if b then rest else first (wrapped other kids) rest)
if-behind true inner kids pieces rest layer other e k h = h
if-behind false inner kids pieces rest layer other e k h = λ i. in_layer (e i) (k i) ∷ h i

-- what begins with no layer has nothing in it, and all behind it
no_layer-within : (layer : Layer) (nodes : List ViewNode) (others : Pieces) → NoLayer nodes others → Alike nothing (within_layer layer others)
no_layer-within layer nodes nothing h = refl
no_layer-within layer nodes (first (bare content) pieces) h = refl
no_layer-within layer nodes (first (wrapped other inner) pieces) h = absurd h

no_layer-behind : (layer : Layer) (nodes : List ViewNode) (others : Pieces) → NoLayer nodes others → nodes ≡ shown (behind_layer layer others)
no_layer-behind layer nodes nothing h = h
no_layer-behind layer nodes (first (bare content) pieces) h = h
no_layer-behind layer nodes (first (wrapped other inner) pieces) h = absurd h

alike-within : (layer : Layer) (pieces others : Pieces) → Alike pieces others → Alike (within_layer layer pieces) (within_layer layer others)
alike-within layer nothing others h = no_layer-within layer _ others h
alike-within layer (first (bare content) pieces) others h = no_layer-within layer _ others h
alike-within layer (first (wrapped outer inner) pieces) nothing h = absurd h
alike-within layer (first (wrapped outer inner) pieces) (first (bare content) rest) h = absurd h
alike-within layer (first (wrapped outer inner) pieces) (first (wrapped other kids) rest) h =
    subst (λ l. Alike (if same_layer layer outer then inner else nothing) (if same_layer layer l then kids else nothing)) h.0
    (if-alike (same_layer layer outer) inner kids h.1)

alike-behind : (layer : Layer) (pieces others : Pieces) → Alike pieces others → shown (behind_layer layer pieces) ≡ shown (behind_layer layer others)
alike-behind layer nothing others h = no_layer-behind layer _ others h
alike-behind layer (first (bare content) pieces) others h = no_layer-behind layer _ others h
alike-behind layer (first (wrapped outer inner) pieces) nothing h = absurd h
alike-behind layer (first (wrapped outer inner) pieces) (first (bare content) rest) h = absurd h
alike-behind layer (first (wrapped outer inner) pieces) (first (wrapped other kids) rest) h =
    subst (λ l. shown (if same_layer layer outer then pieces else first (wrapped outer inner) pieces)
    ≡ shown (if same_layer layer l then rest else first (wrapped other kids) rest)) h.0
    (if-behind (same_layer layer outer) inner kids pieces rest outer other h.0 (alike-shown inner kids h.1) h.2)

-- whatever is put before pieces that are alike, they stay so
pub alike-put : (layers : List Layer) (content : Content) (pieces others : Pieces) → Alike pieces others
    → Alike (put layers content pieces) (put layers content others)
alike-put [] content pieces others h = ap (content_before content) (alike-shown pieces others h)
alike-put (layer ∷ layers) content pieces others h =
    rw (put-cons layer layers content pieces, put-cons layer layers content others) (
      refl,
      alike-put layers content (within_layer layer pieces) (within_layer layer others) (alike-within layer pieces others h),
      alike-behind layer pieces others h,
    )

-- a mark behind an entry, in its layers
pub mark-behind : (layers : List Layer) (content : Content) (pieces : Pieces) → Alike (put layers content (put layers caret pieces)) (put layers content pieces)
mark-behind [] content pieces = refl
mark-behind (layer ∷ layers) content pieces =
    rw (put-twice layer layers layers content caret pieces, put-cons layer layers content pieces)
    (refl, mark-behind layers content (within_layer layer pieces), refl)

-- a mark before an entry, in its layers
pub mark-before : (layers : List Layer) (content : Content) (pieces : Pieces) → Alike (put layers caret (put layers content pieces)) (put layers content pieces)
mark-before [] content pieces = refl
mark-before (layer ∷ layers) content pieces =
    rw (put-twice layer layers layers caret content pieces, put-cons layer layers content pieces)
    (refl, mark-before layers content (within_layer layer pieces), refl)

-- a mark between two entries, in the layers that they have in common
pub mark-between : (layers others : List Layer) (content next : Content) (pieces : Pieces)
    → Alike (put layers content (put (common layers others) caret (put others next pieces))) (put layers content (put others next pieces))
mark-between [] others content next pieces = refl
mark-between (layer ∷ layers) [] content next pieces = (refl, alike-itself (put layers content nothing), refl)
mark-between (layer ∷ layers) (other ∷ others) content next pieces =
    elim (same_layer layer other) as (λ b. same_layer layer other ≡ b
    → Alike (put (layer ∷ layers) content (put (if b then layer ∷ common layers others else []) caret (put (other ∷ others) next pieces)))
    (put (layer ∷ layers) content (put (other ∷ others) next pieces))) [
      | true ↦ λ e.
          subst (λ l. Alike (put (layer ∷ layers) content (put (layer ∷ common layers others) caret (put (l ∷ others) next pieces)))
          (put (layer ∷ layers) content (put (l ∷ others) next pieces)))
          (same_layer-true layer other e)
          (rw (put-thrice layer layers (common layers others) others content caret next pieces, put-twice layer layers others content next pieces)
          (refl, mark-between layers others content next (within_layer layer pieces), refl))
      | false ↦ λ e.
          rw (put-cons other others next pieces, e)
          (refl, alike-itself (put layers content nothing), refl)
    ] refl

-- a mark behind the last entry
mark-last : (layers : List Layer) (content : Content) → Alike (put layers content (put (common layers []) caret nothing)) (put layers content nothing)
mark-last [] content = refl
mark-last (layer ∷ layers) content = (refl, alike-itself (put layers content nothing), refl)

-- a row with a mark in these layers before the entry of a number
abbrev with_mark : List Entry → ℕ → List Layer → List Entry
with_mark row number layers = (marked row number layers).row

of_character-is : (content : Content) (own layers : List Layer) → of_character content own ≡ Some layers → own ≡ layers
of_character-is (leaf node) own layers e = cc
of_character-is (item node) own layers e = cc
of_character-is (character scalar) own layers e = cc
of_character-is caret own layers e = cc

row-behind : (row : List Entry) (number : ℕ) (layers : List Layer) → character_layers_at row number ≡ Some layers
    → Alike (pieces_of (with_mark row (suc number) layers)) (pieces_of row)
row-behind [] number layers e = cc
row-behind (entry ∷ row) zero layers e =
    subst (λ ls. Alike (put entry.layers entry.content (put ls caret (pieces_of row))) (put entry.layers entry.content (pieces_of row)))
    (of_character-is entry.content entry.layers layers e) (mark-behind entry.layers entry.content (pieces_of row))
row-behind (entry ∷ row) (suc number) layers e = alike-put entry.layers entry.content _ _ (row-behind row number layers e)

row-before : (row : List Entry) (number : ℕ) (layers : List Layer) → character_layers_at row number ≡ Some layers
    → Alike (pieces_of (with_mark row number layers)) (pieces_of row)
row-before [] number layers e = cc
row-before (entry ∷ row) zero layers e =
    subst (λ ls. Alike (put ls caret (put entry.layers entry.content (pieces_of row))) (put entry.layers entry.content (pieces_of row)))
    (of_character-is entry.content entry.layers layers e) (mark-before entry.layers entry.content (pieces_of row))
row-before (entry ∷ row) (suc number) layers e = alike-put entry.layers entry.content _ _ (row-before row number layers e)

row-between : (row : List Entry) (number : ℕ)
    → Alike (pieces_of (with_mark row (suc number) (common (layers_at row number) (layers_at row (suc number))))) (pieces_of row)
row-between [] number = refl
row-between (entry ∷ []) zero = mark-last entry.layers entry.content
row-between (entry ∷ next ∷ row) zero = mark-between entry.layers next.layers entry.content next.content (pieces_of row)
row-between (entry ∷ row) (suc number) = alike-put entry.layers entry.content _ _ (row-between row number)

-- A mark right behind a character, in its layers, leaves the nodes as they are,
pub mark-behind-nest : (row : List Entry) (number : ℕ) (layers : List Layer) → character_before row number ≡ Some layers
    → nest (marked row number layers).row ≡ nest row
mark-behind-nest row zero layers e = cc
mark-behind-nest row (suc number) layers e = alike-shown _ _ (row-behind row number layers e)

-- also one right before a character, in its layers,
pub mark-before-nest : (row : List Entry) (number : ℕ) (layers : List Layer) → character_layers_at row number ≡ Some layers
    → nest (marked row number layers).row ≡ nest row
mark-before-nest row number layers e = alike-shown _ _ (row-before row number layers e)

-- and one anywhere in the layers that go on there
pub mark-between-nest : (row : List Entry) (number : ℕ) → nest (marked row number (common (layers_before row number) (layers_at row number))).row ≡ nest row
mark-between-nest row zero = refl
mark-between-nest row (suc number) = alike-shown _ _ (row-between row number)

-- the mark of a boundary leaves the nodes as they are
pub between-nest : (row : List Entry) (start end : ℕ) (before behind : Option (List Layer)) → character_before row start ≡ before
    → character_layers_at row end ≡ behind
    → nest (between row start end before behind).row ≡ nest row
between-nest row start end (Some layers) behind e h = mark-behind-nest row start layers e
between-nest row start end None (Some layers) e h = mark-before-nest row end layers h
between-nest row start end None None e h = mark-between-nest row end
