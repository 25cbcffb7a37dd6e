-- The entries of a row and those of the pieces that it makes are the same, in one order.
use Rattle.std.proofs.Common.{◌≡◌, ℕ, ◌+◌, ◌<◌, zero, suc, List, [], ◌∷◌, ◌++◌, map, take, length, Bool, true, false, if◌then◌else◌, refl, sym, ap, ◌∙◌, arith}
use Rattle.std.proofs.Common.{length-append}
use Rattle.std.proofs.Math.Seq.{take-append-add}
use Rattle.std.specs.Prelude.{slice_get}
use Rattle.view_definitions.specs.Node.{Kind, container, attribute, empty, ui, ViewNode, text, element, nodes_of}
use Rattle.view_definitions.specs.Layer.{Layer, same_layer}
use Rattle.view_definitions.specs.Row.{Content, leaf, item, character, caret, Entry, Piece, Pieces, nothing, first, bare, wrapped, put, pieces_of}
use Rattle.view_definitions.specs.Row.{character_before, content_before, shown, is_leaf_kind, is_item_kind, is_element}
use Rattle.downcast_definitions.specs.Place.{piece_size, pieces_size}
use Rattle.downcast_definitions.specs.Meant.{length_by_kind, model_length, inner_length}
use Rattle.downcast_definitions.proofs.Marks.{within_layer, behind_layer, put-cons}

-- what may stand in a row: leaves that are UI elements, items that are containers or empty elements, characters, and carets
abbrev pub may_stand : Content → Bool
may_stand (leaf node) = is_element is_leaf_kind node
may_stand (item node) = is_element is_item_kind node
may_stand (character scalar) = true
may_stand caret = true

abbrev pub AllStand : List Content → Type 0
AllStand [] = Unit {0}
AllStand (content ∷ contents) = (may_stand content ≡ true) × AllStand contents

-- an entry counts among the items of the parent, where it shows one of them
abbrev pub counted : Content → ℕ
counted (leaf node) = 0
counted (item node) = 1
counted (character scalar) = 1
counted caret = 0

abbrev pub items_in : List Content → ℕ
items_in [] = 0
items_in (content ∷ contents) = counted content + items_in contents

abbrev mutual
  pub piece_contents : Piece → List Content
  piece_contents (bare content) = content ∷ []
  piece_contents (wrapped layer inner) = contents inner

  -- the contents of the entries of pieces, in their order
  pub contents : Pieces → List Content
  contents nothing = []
  contents (first piece pieces) = piece_contents piece ++ contents pieces

-- the contents of a row
abbrev pub contents_of : List Entry → List Content
contents_of row = map (λ entry. entry.content) row

mutual
  piece-size : (piece : Piece) → piece_size piece ≡ length (piece_contents piece)
  piece-size (bare content) = refl
  piece-size (wrapped layer inner) = contents-size inner

  pub contents-size : (pieces : Pieces) → pieces_size pieces ≡ length (contents pieces)
  contents-size nothing = refl
  contents-size (first piece pieces) =
      (λ i. piece-size piece i + contents-size pieces i) ∙ sym (length-append (piece_contents piece) (contents pieces))

contents-layer : (layer : Layer) (pieces : Pieces) → contents (within_layer layer pieces) ++ contents (behind_layer layer pieces) ≡ contents pieces
contents-layer layer nothing = refl
contents-layer layer (first (bare content) pieces) = refl
contents-layer layer (first (wrapped other inner) pieces) =
    elim (same_layer layer other) as (λ b. contents (if b then inner else nothing)
    ++ contents (if b then pieces else first (wrapped other inner) pieces) ≡ contents inner ++ contents pieces) [
      | true ↦ refl
      | false ↦ refl
    ]

pub contents-put : (layers : List Layer) (content : Content) (pieces : Pieces) → contents (put layers content pieces) ≡ content ∷ contents pieces
contents-put [] content pieces = refl
contents-put (layer ∷ layers) content pieces =
    ap contents (put-cons layer layers content pieces)
    ∙ ap (λ cs. cs ++ contents (behind_layer layer pieces)) (contents-put layers content (within_layer layer pieces))
    ∙ ap (λ cs. content ∷ cs) (contents-layer layer pieces)

-- the pieces of a row have its entries
pub contents-row : (row : List Entry) → contents (pieces_of row) ≡ contents_of row
contents-row [] = refl
contents-row (entry ∷ row) = contents-put entry.layers entry.content (pieces_of row) ∙ ap (λ cs. entry.content ∷ cs) (contents-row row)

pub stand-append : (xs ys : List Content) → AllStand xs → AllStand ys → AllStand (xs ++ ys)
stand-append [] ys h k = k
stand-append (x ∷ xs) ys h k = (h.0, stand-append xs ys h.1 k)

pub stand-front : (xs ys : List Content) → AllStand (xs ++ ys) → AllStand xs
stand-front [] ys h = tt
stand-front (x ∷ xs) ys h = (h.0, stand-front xs ys h.1)

pub stand-rest : (xs ys : List Content) → AllStand (xs ++ ys) → AllStand ys
stand-rest [] ys h = h
stand-rest (x ∷ xs) ys h = stand-rest xs ys h.1

pub items-append : (xs ys : List Content) → items_in (xs ++ ys) ≡ items_in xs + items_in ys
items-append [] ys = omega arith
items-append (x ∷ xs) ys =
    let e : items_in (xs ++ ys) ≡ items_in xs + items_in ys = items-append xs ys in
    omega (arith, e)

-- what stands in two lists, one behind the other
pub get-front : {A : Type 0} → (xs ys : List A) (number : ℕ) → number < length xs → slice_get (xs ++ ys) number ≡ slice_get xs number
get-front [] ys number h = absurd (omega (arith, h))
get-front (x ∷ xs) ys zero h = refl
get-front (x ∷ xs) ys (suc number) h = get-front xs ys number (omega (arith, h))

pub get-rest : {A : Type 0} → (xs ys : List A) (number place : ℕ) → place ≡ length xs + number → slice_get (xs ++ ys) place ≡ slice_get ys number
get-rest [] ys number place h = ap (slice_get ys) (omega (arith, h))
get-rest (x ∷ xs) ys number zero h = absurd (omega (arith, h))
get-rest (x ∷ xs) ys number (suc place) h = get-rest xs ys number place (omega (arith, h))

pub take-rest : {A : Type 0} → (xs ys : List A) (number place : ℕ) → place ≡ length xs + number → take place (xs ++ ys) ≡ xs ++ take number ys
take-rest xs ys number place h = ap (λ n. take n (xs ++ ys)) h ∙ take-append-add xs ys number

leaf-length : (kind : Kind) (inner : ℕ) → is_leaf_kind kind ≡ true → length_by_kind kind inner ≡ 0
leaf-length container inner e = cc
leaf-length (attribute priority id) inner e = cc
leaf-length empty inner e = cc
leaf-length ui inner e = refl

pub item-length : (kind : Kind) (inner : ℕ) → is_item_kind kind ≡ true → length_by_kind kind inner ≡ 1
item-length container inner e = refl
item-length (attribute priority id) inner e = cc
item-length empty inner e = refl
item-length ui inner e = cc

-- a leaf shows no item, and an item one
pub leaf-counts : (node : ViewNode) → is_element is_leaf_kind node ≡ true → model_length node ≡ 0
leaf-counts (text scalars) e = cc
leaf-counts (element head children) e = leaf-length head.kind (inner_length children) e

pub item-counts : (node : ViewNode) → is_element is_item_kind node ≡ true → model_length node ≡ 1
item-counts (text scalars) e = cc
item-counts (element head children) e = item-length head.kind (inner_length children) e

pub character-counts : (scalar : ℕ) (nodes : List ViewNode) → inner_length (nodes_of (character_before scalar nodes)) ≡ 1 + inner_length (nodes_of nodes)
character-counts scalar [] = refl
character-counts scalar (text scalars ∷ nodes) = omega arith
character-counts scalar (element head children ∷ nodes) = refl

content-counts : (content : Content) (nodes : List ViewNode) → may_stand content ≡ true → inner_length (nodes_of (content_before content nodes))
    ≡ counted content + inner_length (nodes_of nodes)
content-counts (leaf node) nodes e = ap (λ n. n + inner_length (nodes_of nodes)) (leaf-counts node e)
content-counts (item node) nodes e = ap (λ n. n + inner_length (nodes_of nodes)) (item-counts node e)
content-counts (character scalar) nodes e = character-counts scalar nodes
content-counts caret nodes e = omega arith

-- that pieces show as many items as their entries
abbrev Counts : Pieces → Type 0
Counts pieces = AllStand (contents pieces) → inner_length (nodes_of (shown pieces)) ≡ items_in (contents pieces)

mutual
  piece-counts : (piece : Piece) (pieces : Pieces) → Counts pieces → Counts (first piece pieces)
  piece-counts (bare content) pieces rest h =
      content-counts content (shown pieces) h.0 ∙ ap (λ n. counted content + n) (rest h.1)
  piece-counts (wrapped layer inner) pieces rest h =
      (λ i. shown-counts inner (stand-front (contents inner) (contents pieces) h) i + rest (stand-rest (contents inner) (contents pieces) h) i)
      ∙ sym (items-append (contents inner) (contents pieces))

  -- the nodes that pieces are show as many items as their entries
  pub shown-counts : (pieces : Pieces) → Counts pieces
  shown-counts nothing h = refl
  shown-counts (first piece pieces) h = piece-counts piece pieces (shown-counts pieces) h
