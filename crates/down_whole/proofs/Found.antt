-- Where the caret is found among the nodes of a row.
use Rattle.std.proofs.Common.{◌≡◌, ℕ, ◌+◌, ◌-◌, ◌<◌, ◌==◌, List, [], ◌∷◌, length, true, false, nat_lt, if◌then◌else◌, Option, Some, None, is_some, refl, sym}
use Rattle.std.proofs.Common.{ap, ◌∙◌, arith}
use Rattle.std.specs.Prelude.{option_map}
use Rattle.std.proofs.lemmas.Bool.Decides.{nat_tests}
use Rattle.view_definitions.specs.Node.{Head, ViewNode, ViewNodes, text, element, list_of, nodes_of}
use Rattle.view_definitions.specs.NodeCode.{list_of-nodes_of}
use Rattle.view_definitions.specs.Layer.{Layer, same_layer, layer_of, in_layer}
use Rattle.view_definitions.specs.Row.{Content, leaf, item, character, caret, Entry, Piece, Pieces, nothing, first, bare, wrapped, put, pieces_of}
use Rattle.view_definitions.specs.Row.{character_before, shown}
use Rattle.view_definitions.proofs.Joins.{PlainPieces, leaf_none, item_none}
use Rattle.downcast_definitions.specs.Place.{piece_size, pieces_size, Passed, none_passed, node_more, character_more, behind_content, begins_with_text}
use Rattle.downcast_definitions.specs.Place.{as_place, in_pieces}
use Rattle.down_whole.specs.Between.{Opened, is_in, opened_if, opened_last, last_text, first_text, end_of, caret_at}
use Rattle.down_whole.proofs.CaretInRow.{inner_first, without_first, put-is, around, behind, none_is, first-shown, inner-plain, some-shown}

-- ---- sizes

parts_size : (layer : Layer) (pieces : Pieces) → pieces_size (inner_first layer pieces) + pieces_size (without_first layer pieces) ≡ pieces_size pieces
parts_size layer nothing = refl
parts_size layer (first (bare content) pieces) = omega arith
parts_size layer (first (wrapped other inner) pieces) =
    elim (same_layer layer other) as (λ b. pieces_size (if b then inner else nothing)
    + pieces_size (if b then pieces else first (wrapped other inner) pieces) ≡ pieces_size inner + pieces_size pieces) [ true ↦ refl | false ↦ omega arith ]

pub put-size : (layers : List Layer) (content : Content) (pieces : Pieces) → pieces_size (put layers content pieces) ≡ 1 + pieces_size pieces
put-size [] content pieces = refl
put-size (layer ∷ layers) content pieces =
    ap pieces_size (put-is layer layers content pieces)
    ∙ ap (λ n. n + pieces_size (without_first layer pieces)) (put-size layers content (inner_first layer pieces))
    ∙ omega (arith, parts_size layer pieces)

pub row-size : (row : List Entry) → pieces_size (pieces_of row) ≡ length row
row-size [] = refl
row-size (entry ∷ row) = put-size entry.layers entry.content (pieces_of row) ∙ omega (arith, row-size row)

mutual
  around-size : (left : Pieces) (layers : List Layer) (right : Pieces) → pieces_size (around left layers right) ≡ pieces_size left + 1 + pieces_size right
  around-size nothing layers right = put-size layers caret right ∙ omega arith
  around-size (first piece nothing) layers right = behind-size piece layers right ∙ omega arith
  around-size (first piece (first next rest)) layers right = omega (arith, around-size (first next rest) layers right)

  behind-size : (piece : Piece) (layers : List Layer) (right : Pieces) → pieces_size (behind piece layers right) ≡ piece_size piece + 1 + pieces_size right
  behind-size (bare content) layers right = omega (arith, put-size layers caret right)
  behind-size (wrapped other inner) [] right = omega arith
  behind-size (wrapped other inner) (layer ∷ layers) right =
      elim (same_layer layer other) as
      (λ b. pieces_size (if b then first (wrapped other (around inner layers (inner_first layer right))) (without_first layer right)
      else first (wrapped other inner) (put (layer ∷ layers) caret right))
      ≡ pieces_size inner + 1 + pieces_size right) [
        | true ↦ omega (arith, around-size inner layers (inner_first layer right), parts_size layer right)
        | false ↦ omega (arith, put-size (layer ∷ layers) caret right)
      ]

-- ---- steps

not_zero : (number rest : ℕ) → number ≡ 1 + rest → (number == 0) ≡ false
not_zero number rest e = grind (arith, nat_tests)

not_in : (number size rest : ℕ) → number ≡ size + rest → nat_lt number size ≡ false
not_in number size rest e = grind (arith, nat_tests)

is_inside : (number size : ℕ) → number < size → nat_lt number size ≡ true
is_inside number size e = grind (arith, nat_tests)

skip-bare : (content : Content) (pieces : Pieces) (number rest : ℕ) (passed : Passed) → number ≡ 1 + rest
    → in_pieces as_place (first (bare content) pieces) number passed ≡ in_pieces as_place pieces rest (behind_content content passed)
skip-bare content pieces number rest passed e =
    let less : number - 1 ≡ rest = omega (arith, e) in
    ap (λ b. if b then as_place passed (begins_with_text pieces) else in_pieces as_place pieces (number - 1) (behind_content content passed))
    (not_zero number rest e)
    ∙ ap (λ n. in_pieces as_place pieces n (behind_content content passed)) less

skip-wrapped : (layer : Layer) (inner pieces : Pieces) (number rest : ℕ) (passed : Passed) → number ≡ pieces_size inner + rest
    → in_pieces as_place (first (wrapped layer inner) pieces) number passed ≡ in_pieces as_place pieces rest (node_more passed)
skip-wrapped layer inner pieces number rest passed e =
    let less : number - pieces_size inner ≡ rest = omega (arith, e) in
    ap (λ b. if b then passed.nodes ∷ in_pieces as_place inner number none_passed
    else in_pieces as_place pieces (number - pieces_size inner) (node_more passed)) (not_in number (pieces_size inner) rest e)
    ∙ ap (λ n. in_pieces as_place pieces n (node_more passed)) less

go-in : (layer : Layer) (inner pieces : Pieces) (number : ℕ) (passed : Passed) → number < pieces_size inner
    → in_pieces as_place (first (wrapped layer inner) pieces) number passed ≡ passed.nodes ∷ in_pieces as_place inner number none_passed
go-in layer inner pieces number passed e =
    ap (λ b. if b then passed.nodes ∷ in_pieces as_place inner number none_passed
    else in_pieces as_place pieces (number - pieces_size inner) (node_more passed)) (is_inside number (pieces_size inner) e)

at-first : (layer : Layer) (layers : List Layer) (right : Pieces) (passed : Passed)
    → in_pieces as_place (put (layer ∷ layers) caret right) 0 passed ≡ passed.nodes ∷ in_pieces as_place (put layers caret (inner_first layer right)) 0
    none_passed
at-first layer layers right passed =
    ap (λ pieces. in_pieces as_place pieces 0 passed) (put-is layer layers caret right)
    ∙ go-in layer (put layers caret (inner_first layer right)) (without_first layer right) 0 passed
    (omega (arith, put-size layers caret (inner_first layer right)))

-- ---- what stands before the caret

-- behind pieces
abbrev passed_behind : Passed → Pieces → Passed
passed_behind passed nothing = passed
passed_behind passed (first (bare content) pieces) = passed_behind (behind_content content passed) pieces
passed_behind passed (first (wrapped layer inner) pieces) = passed_behind (node_more passed) pieces

-- what the last piece has in it, if it is this layer
abbrev inner_last : Layer → Pieces → Pieces
inner_last layer nothing = nothing
inner_last layer (first (bare content) nothing) = nothing
inner_last layer (first (wrapped other inner) nothing) = if same_layer layer other then inner else nothing
inner_last layer (first piece (first next rest)) = inner_last layer (first next rest)

-- how many nodes stand before it, or before a layer behind the pieces
abbrev nodes_before : Layer → Passed → Pieces → ℕ
nodes_before layer passed nothing = passed.nodes
nodes_before layer passed (first (bare content) nothing) = (behind_content content passed).nodes
nodes_before layer passed (first (wrapped other inner) nothing) = if same_layer layer other then passed.nodes else passed.nodes + 1
nodes_before layer passed (first (bare content) (first next rest)) = nodes_before layer (behind_content content passed) (first next rest)
nodes_before layer passed (first (wrapped other inner) (first next rest)) = nodes_before layer (node_more passed) (first next rest)

found-here : (left right : Pieces) (passed : Passed)
    → in_pieces as_place (around left [] right) (pieces_size left) passed ≡ as_place (passed_behind passed left) (begins_with_text right)
found-here nothing right passed = refl
found-here (first (bare content) nothing) right passed = skip-bare content (put [] caret right) (1 + 0) 0 passed refl
found-here (first (wrapped layer inner) nothing) right passed = skip-wrapped layer inner (put [] caret right) (pieces_size inner + 0) 0 passed refl
found-here (first (bare content) (first next rest)) right passed =
    skip-bare content (around (first next rest) [] right) _ (pieces_size (first next rest)) passed refl
    ∙ found-here (first next rest) right (behind_content content passed)
found-here (first (wrapped layer inner) (first next rest)) right passed =
    skip-wrapped layer inner (around (first next rest) [] right) _ (pieces_size (first next rest)) passed refl
    ∙ found-here (first next rest) right (node_more passed)

found-in : (layer : Layer) (layers : List Layer) (left right : Pieces) (passed : Passed)
    → in_pieces as_place (around left (layer ∷ layers) right) (pieces_size left) passed
    ≡ nodes_before layer passed left ∷ in_pieces as_place (around (inner_last layer left) layers (inner_first layer right))
    (pieces_size (inner_last layer left)) none_passed
found-in layer layers nothing right passed = at-first layer layers right passed
found-in layer layers (first (bare content) nothing) right passed =
    skip-bare content (put (layer ∷ layers) caret right) (1 + 0) 0 passed refl ∙ at-first layer layers right (behind_content content passed)
found-in layer layers (first (wrapped other inner) nothing) right passed =
    elim (same_layer layer other) as
    (λ b. in_pieces as_place (if b then first (wrapped other (around inner layers (inner_first layer right))) (without_first layer right)
    else first (wrapped other inner) (put (layer ∷ layers) caret right)) (pieces_size inner + 0) passed
    ≡ (if b then passed.nodes else passed.nodes + 1) ∷ in_pieces as_place (around (if b then inner else nothing) layers (inner_first layer right))
    (pieces_size (if b then inner else nothing)) none_passed) [
      | true ↦
          let same : pieces_size inner + 0 ≡ pieces_size inner = omega arith in
          go-in other (around inner layers (inner_first layer right)) (without_first layer right) (pieces_size inner + 0) passed
          (omega (arith, around-size inner layers (inner_first layer right)))
          ∙ ap (λ n. passed.nodes ∷ in_pieces as_place (around inner layers (inner_first layer right)) n none_passed) same
      | false ↦ skip-wrapped other inner (put (layer ∷ layers) caret right) (pieces_size inner + 0) 0 passed refl
          ∙ at-first layer layers right (node_more passed)
    ]
found-in layer layers (first (bare content) (first next rest)) right passed =
    skip-bare content (around (first next rest) (layer ∷ layers) right) _ (pieces_size (first next rest)) passed refl
    ∙ found-in layer layers (first next rest) right (behind_content content passed)
found-in layer layers (first (wrapped other inner) (first next rest)) right passed =
    skip-wrapped other inner (around (first next rest) (layer ∷ layers) right) _ (pieces_size (first next rest)) passed refl
    ∙ found-in layer layers (first next rest) right (node_more passed)

-- ---- on the nodes

abbrev text_more : ℕ → ℕ → Option ℕ → Passed
text_more count nodes None = record { nodes = nodes + 1; in_text = Some count }
text_more count nodes (Some length) = record { nodes = nodes; in_text = Some (length + count) }

-- behind nodes
abbrev end_from : Passed → List ViewNode → Passed
end_from passed [] = passed
end_from passed (text scalars ∷ nodes) = end_from (text_more (length scalars) passed.nodes passed.in_text) nodes
end_from passed (element head children ∷ nodes) = end_from (node_more passed) nodes

character_passed : (scalar count : ℕ) (in_text : Option ℕ) (nodes : List ViewNode)
    → end_from (character_more count in_text) nodes ≡ end_from (record { nodes = count; in_text = in_text }) (character_before scalar nodes)
character_passed scalar count None [] = refl
character_passed scalar count (Some length) [] = refl
character_passed scalar count None (text scalars ∷ nodes) = ap (λ n. end_from (record { nodes = count + 1; in_text = Some n }) nodes) (omega arith)
character_passed scalar count (Some long) (text scalars ∷ nodes) = ap (λ n. end_from (record { nodes = count; in_text = Some n }) nodes) (omega arith)
character_passed scalar count None (element head children ∷ nodes) = refl
character_passed scalar count (Some length) (element head children ∷ nodes) = refl

passed-shown : (passed : Passed) (left : Pieces) → PlainPieces left → passed_behind passed left ≡ end_from passed (shown left)
passed-shown passed nothing p = refl
passed-shown passed (first (bare (leaf (text scalars))) pieces) p = absurd cc
passed-shown passed (first (bare (leaf (element head children))) pieces) p = passed-shown (node_more passed) pieces p.1
passed-shown passed (first (bare (item (text scalars))) pieces) p = absurd cc
passed-shown passed (first (bare (item (element head children))) pieces) p = passed-shown (node_more passed) pieces p.1
passed-shown passed (first (bare (character scalar)) pieces) p =
    passed-shown (character_more passed.nodes passed.in_text) pieces p.1 ∙ character_passed scalar passed.nodes passed.in_text (shown pieces)
passed-shown passed (first (bare caret) pieces) p = absurd cc
passed-shown passed (first (wrapped layer inner) pieces) p = passed-shown (node_more passed) pieces p.1

-- no two texts meet
abbrev Apart : List ViewNode → Type 0
Apart [] = Unit {0}
Apart (text scalars ∷ nodes) = (first_text nodes ≡ None) × Apart nodes
Apart (element head children ∷ nodes) = Apart nodes

apart_before : (scalar : ℕ) (nodes : List ViewNode) → Apart nodes → Apart (character_before scalar nodes)
apart_before scalar [] h = (refl, tt)
apart_before scalar (text scalars ∷ nodes) h = (h.0, h.1)
apart_before scalar (element head children ∷ nodes) h = (refl, h)

apart-shown : (left : Pieces) → PlainPieces left → Apart (shown left)
apart-shown nothing p = tt
apart-shown (first (bare (leaf (text scalars))) pieces) p = absurd cc
apart-shown (first (bare (leaf (element head children))) pieces) p = apart-shown pieces p.1
apart-shown (first (bare (item (text scalars))) pieces) p = absurd cc
apart-shown (first (bare (item (element head children))) pieces) p = apart-shown pieces p.1
apart-shown (first (bare (character scalar)) pieces) p = apart_before scalar (shown pieces) (apart-shown pieces p.1)
apart-shown (first (bare caret) pieces) p = absurd cc
apart-shown (first (wrapped layer inner) pieces) p = apart-shown pieces p.1

last_behind : (head : Head) (children : ViewNodes) (nodes : List ViewNode) → last_text nodes ≡ last_text (element head children ∷ nodes)
last_behind head children [] = refl
last_behind head children (node ∷ nodes) = refl

end-apart : (count : ℕ) (nodes : List ViewNode) → Apart nodes → end_from (record { nodes = count; in_text = None }) nodes
    ≡ record { nodes = count + length nodes; in_text = option_map length (last_text nodes) }
end-apart count [] h = ap (λ n. record { nodes = n; in_text = None }) (omega arith)
end-apart count (element head children ∷ nodes) h =
    end-apart (count + 1) nodes h
    ∙ (let sum : count + 1 + length nodes ≡ count + length (element head children ∷ nodes) = omega arith in
    λ i. record { nodes = sum i; in_text = option_map length (last_behind head children nodes i) })
end-apart count (text scalars ∷ []) h = refl
end-apart count (text scalars ∷ text more_scalars ∷ nodes) h = absurd (let e : Some more_scalars ≡ None = h.0 in cc)
end-apart count (text scalars ∷ element head children ∷ nodes) h =
    end-apart (count + 1 + 1) nodes h.1
    ∙ (let sum : count + 1 + 1 + length nodes ≡ count + length (text scalars ∷ element head children ∷ nodes) = omega arith in
    λ i. record { nodes = sum i; in_text = option_map length (last_behind head children nodes i) })

end-is : (left : Pieces) → PlainPieces left → passed_behind none_passed left ≡ end_of (shown left)
end-is left p =
    passed-shown none_passed left p ∙ end-apart 0 (shown left) (apart-shown left p)
    ∙ (let sum : 0 + length (shown left) ≡ length (shown left) = omega arith
    in λ i. record { nodes = sum i; in_text = option_map length (last_text (shown left)) })

text_is_first : (scalar : ℕ) (nodes : List ViewNode) → true ≡ is_some (first_text (character_before scalar nodes))
text_is_first scalar [] = refl
text_is_first scalar (text scalars ∷ nodes) = refl
text_is_first scalar (element head children ∷ nodes) = refl

begins-is : (right : Pieces) → PlainPieces right → begins_with_text right ≡ is_some (first_text (shown right))
begins-is nothing p = refl
begins-is (first (bare (leaf (text scalars))) pieces) p = absurd cc
begins-is (first (bare (leaf (element head children))) pieces) p = refl
begins-is (first (bare (item (text scalars))) pieces) p = absurd cc
begins-is (first (bare (item (element head children))) pieces) p = refl
begins-is (first (bare (character scalar)) pieces) p = text_is_first scalar (shown pieces)
begins-is (first (bare caret) pieces) p = absurd cc
begins-is (first (wrapped layer inner) pieces) p = refl

-- ---- the last layer

character-opened : (layer : Layer) (scalar : ℕ) (node : ViewNode) (rest : List ViewNode)
    → opened_last layer (character_before scalar (node ∷ rest))
    ≡ (character_before scalar (opened_last layer (node ∷ rest)).0, (opened_last layer (node ∷ rest)).1)
character-opened layer scalar (text scalars) [] = refl
character-opened layer scalar (text scalars) (next ∷ rest) = refl
character-opened layer scalar (element head children) [] =
    elim (is_in layer (element head children)) as
    (λ b. ◌≡◌ {A = Opened} (
      text (scalar ∷ []) ∷ (opened_if b [] (list_of children) (element head children ∷ [])).0,
      (opened_if b [] (list_of children) (element head children ∷ [])).1,
    ) (
      character_before scalar (opened_if b [] (list_of children) (element head children ∷ [])).0,
      (opened_if b [] (list_of children) (element head children ∷ [])).1,
    )) [ true ↦ refl | false ↦ refl ]
character-opened layer scalar (element head children) (next ∷ rest) = refl

opened_one : (layer : Layer) (head : Head) (children : ViewNodes) → layer_of head ≡ None → opened_last layer (element head children ∷ [])
    ≡ (element head children ∷ [], [])
opened_one layer head children e = ap (λ b. opened_if b [] (list_of children) (element head children ∷ [])) (none_is layer head e)

opened_more : (layer : Layer) (node : ViewNode) (piece : Piece) (pieces : Pieces) → PlainPieces (first piece pieces)
    → opened_last layer (node ∷ shown (first piece pieces))
    ≡ (node ∷ (opened_last layer (shown (first piece pieces))).0, (opened_last layer (shown (first piece pieces))).1)
opened_more layer node piece pieces p =
    some-shown piece pieces (λ nodes. opened_last layer (node ∷ nodes) ≡ (node ∷ (opened_last layer nodes).0, (opened_last layer nodes).1)) p
    (λ next rest. refl)

opened_character : (layer : Layer) (scalar : ℕ) (piece : Piece) (pieces : Pieces) → PlainPieces (first piece pieces)
    → opened_last layer (character_before scalar (shown (first piece pieces)))
    ≡ (character_before scalar (opened_last layer (shown (first piece pieces))).0, (opened_last layer (shown (first piece pieces))).1)
opened_character layer scalar piece pieces p =
    some-shown piece pieces (λ nodes. opened_last layer (character_before scalar nodes)
    ≡ (character_before scalar (opened_last layer nodes).0, (opened_last layer nodes).1)) p (λ next rest. character-opened layer scalar next rest)

one_character : (count : ℕ) (in_text : Option ℕ) → (character_more count in_text).nodes ≡ (text_more 1 count in_text).nodes
one_character count None = refl
one_character count (Some length) = refl

before-is : (layer : Layer) (passed : Passed) (left : Pieces) → PlainPieces left → nodes_before layer passed left
    ≡ (end_from passed (opened_last layer (shown left)).0).nodes
before-is layer passed nothing p = refl
before-is layer passed (first (bare (leaf (text scalars))) pieces) p = absurd cc
before-is layer passed (first (bare (item (text scalars))) pieces) p = absurd cc
before-is layer passed (first (bare caret) pieces) p = absurd cc
before-is layer passed (first (bare (leaf (element head children))) nothing) p =
    sym (ap (λ opened. (end_from passed opened.0).nodes) (opened_one layer head children (leaf_none head p.0)))
before-is layer passed (first (bare (item (element head children))) nothing) p =
    sym (ap (λ opened. (end_from passed opened.0).nodes) (opened_one layer head children (item_none head p.0)))
before-is layer passed (first (bare (character scalar)) nothing) p = one_character passed.nodes passed.in_text
before-is layer passed (first (wrapped other inner) nothing) p =
    elim (same_layer layer other) as (λ b. (if b then passed.nodes else passed.nodes + 1)
    ≡ (end_from passed (opened_if b [] (list_of (nodes_of (shown inner))) (in_layer other (shown inner) ∷ [])).0).nodes) [ true ↦ refl | false ↦ refl ]
before-is layer passed (first (bare (leaf (element head children))) (first next rest)) p =
    before-is layer (node_more passed) (first next rest) p.1
    ∙ sym (ap (λ opened. (end_from passed opened.0).nodes) (opened_more layer (element head children) next rest p.1))
before-is layer passed (first (bare (item (element head children))) (first next rest)) p =
    before-is layer (node_more passed) (first next rest) p.1
    ∙ sym (ap (λ opened. (end_from passed opened.0).nodes) (opened_more layer (element head children) next rest p.1))
before-is layer passed (first (bare (character scalar)) (first next rest)) p =
    before-is layer (character_more passed.nodes passed.in_text) (first next rest) p.1
    ∙ ap (λ passed. passed.nodes) (character_passed scalar passed.nodes passed.in_text (opened_last layer (shown (first next rest))).0)
    ∙ sym (ap (λ opened. (end_from passed opened.0).nodes) (opened_character layer scalar next rest p.1))
before-is layer passed (first (wrapped other inner) (first next rest)) p =
    before-is layer (node_more passed) (first next rest) p.1
    ∙ sym (ap (λ opened. (end_from passed opened.0).nodes) (opened_more layer (in_layer other (shown inner)) next rest p.1))

inner-is : (layer : Layer) (left : Pieces) → PlainPieces left → shown (inner_last layer left) ≡ (opened_last layer (shown left)).1
inner-is layer nothing p = refl
inner-is layer (first (bare (leaf (text scalars))) pieces) p = absurd cc
inner-is layer (first (bare (item (text scalars))) pieces) p = absurd cc
inner-is layer (first (bare caret) pieces) p = absurd cc
inner-is layer (first (bare (leaf (element head children))) nothing) p = sym (ap (λ opened. opened.1) (opened_one layer head children (leaf_none head p.0)))
inner-is layer (first (bare (item (element head children))) nothing) p = sym (ap (λ opened. opened.1) (opened_one layer head children (item_none head p.0)))
inner-is layer (first (bare (character scalar)) nothing) p = refl
inner-is layer (first (wrapped other inner) nothing) p =
    elim (same_layer layer other) as (λ b. shown (if b then inner else nothing)
    ≡ (opened_if b [] (list_of (nodes_of (shown inner))) (in_layer other (shown inner) ∷ [])).1) [
      | true ↦ sym (list_of-nodes_of (shown inner))
      | false ↦ refl
    ]
inner-is layer (first (bare (leaf (element head children))) (first next rest)) p =
    inner-is layer (first next rest) p.1 ∙ sym (ap (λ opened. opened.1) (opened_more layer (element head children) next rest p.1))
inner-is layer (first (bare (item (element head children))) (first next rest)) p =
    inner-is layer (first next rest) p.1 ∙ sym (ap (λ opened. opened.1) (opened_more layer (element head children) next rest p.1))
inner-is layer (first (bare (character scalar)) (first next rest)) p =
    inner-is layer (first next rest) p.1 ∙ sym (ap (λ opened. opened.1) (opened_character layer scalar next rest p.1))
inner-is layer (first (wrapped other inner) (first next rest)) p =
    inner-is layer (first next rest) p.1 ∙ sym (ap (λ opened. opened.1) (opened_more layer (in_layer other (shown inner)) next rest p.1))

last-plain : (layer : Layer) (left : Pieces) → PlainPieces left → PlainPieces (inner_last layer left)
last-plain layer nothing p = tt
last-plain layer (first (bare content) nothing) p = tt
last-plain layer (first (wrapped other inner) nothing) p = elim (same_layer layer other) as (λ b. PlainPieces (if b then inner else nothing))
    [ true ↦ p.0 | false ↦ tt ]
last-plain layer (first piece (first next rest)) p = last-plain layer (first next rest) p.1

kept_first : (layer : Layer) (next : ViewNode) (rest : List ViewNode) → first_text (next ∷ rest) ≡ None → first_text (opened_last layer (next ∷ rest)).0 ≡ None
kept_first layer (text scalars) rest h = absurd cc
kept_first layer (element head children) [] h =
    elim (is_in layer (element head children)) as (λ b. first_text (opened_if b [] (list_of children) (element head children ∷ [])).0 ≡ None)
    [ true ↦ refl | false ↦ refl ]
kept_first layer (element head children) (next ∷ rest) h = refl

opened-apart : (layer : Layer) (nodes : List ViewNode) → Apart nodes → Apart (opened_last layer nodes).0
opened-apart layer [] h = tt
opened-apart layer (text scalars ∷ []) h = h
opened-apart layer (element head children ∷ []) h =
    elim (is_in layer (element head children)) as (λ b. Apart (opened_if b [] (list_of children) (element head children ∷ [])).0) [ true ↦ tt | false ↦ tt ]
opened-apart layer (text scalars ∷ next ∷ rest) h = (kept_first layer next rest h.0, opened-apart layer (next ∷ rest) h.1)
opened-apart layer (element head children ∷ next ∷ rest) h = opened-apart layer (next ∷ rest) h

before-all : (layer : Layer) (left : Pieces) → PlainPieces left → nodes_before layer none_passed left ≡ length (opened_last layer (shown left)).0
before-all layer left p =
    let sum : 0 + length (opened_last layer (shown left)).0 ≡ length (opened_last layer (shown left)).0 = omega arith in
    before-is layer none_passed left p
    ∙ ap (λ passed. passed.nodes) (end-apart 0 (opened_last layer (shown left)).0 (opened-apart layer (shown left) (apart-shown left p)))
    ∙ sum

-- where the caret is found between pieces
pub caret-found : (layers : List Layer) (left right : Pieces) → PlainPieces left → PlainPieces right
    → in_pieces as_place (around left layers right) (pieces_size left) none_passed ≡ caret_at (shown left) layers (shown right)
caret-found [] left right l r = found-here left right none_passed ∙ (λ i. as_place (end-is left l i) (begins-is right r i))
caret-found (layer ∷ layers) left right l r =
    found-in layer layers left right none_passed
    ∙ (λ i. before-all layer left l i ∷ caret-found layers (inner_last layer left) (inner_first layer right) (last-plain layer left l)
    (inner-plain layer right r) i)
    ∙ (λ i. length (opened_last layer (shown left)).0 ∷ caret_at (inner-is layer left l i) layers (sym (first-shown layer right r) i).1)
