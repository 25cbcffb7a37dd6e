-- Where a list of nodes begins only shifts the first index of a place in it, and a place of an entry always has one.
use Rattle.std.proofs.Common.{◌≡◌, ℕ, zero, suc, ◌+◌, ◌-◌, List, [], ◌∷◌, ◌++◌, length, Bool, true, false, Option, Some, None, refl, ap, ◌∙◌, arith}
use Rattle.std.specs.Prelude.{nat_lt, ◌==◌, if◌then◌else◌}
use Rattle.item_definitions.specs.Item.{Item}
use Rattle.view_definitions.specs.Node.{ViewNodes, none, more}
use Rattle.view_definitions.specs.Row.{Pieces, nothing, first, bare, wrapped, pieces_of}
use Rattle.downcast_definitions.specs.Scene.{Scene, has_caret, boundary}
use Rattle.downcast_definitions.specs.Rows.{row_of}
use Rattle.downcast_definitions.specs.Place.{pieces_size, Passed, none_passed, node_more, behind_content, begins_with_text, Found, in_or_before_text, as_place}
use Rattle.downcast_definitions.specs.Place.{as_node, in_pieces}
use Rattle.downcast_definitions.specs.Seen.{entries_before, mark_at, boundary_place, node_place}
use Rattle.downcast_definitions.specs.Meant.{model_length}
use Rattle.downcast_definitions.specs.Among.{place_in, place_among, item_among, gap_in, gap_among, is_character, before_item, seen_among}

-- a place in a list that begins at this index of another
abbrev pub shift : ℕ → List ℕ → List ℕ
shift base [] = []
shift base (index ∷ place) = (base + index) ∷ place

abbrev pub NotEmpty : List ℕ → Type 0
NotEmpty [] = ⊥
NotEmpty (index ∷ place) = Unit {0}

pub shift-front : (base : ℕ) (place rest : List ℕ) → NotEmpty place → shift base place ++ rest ≡ shift base (place ++ rest)
shift-front base [] rest h = absurd h
shift-front base (index ∷ place) rest h = refl

pub shift-none : (place : List ℕ) → shift 0 place ≡ place
shift-none [] = refl
shift-none (index ∷ place) = ap (λ n. n ∷ place) (omega arith)

-- ---- among nodes

further-on : (base index next : ℕ) → next ≡ index + 1 → base + index + 1 ≡ base + next
further-on base index next e = omega (arith, e)

from-none : (base : ℕ) → base ≡ base + 0
from-none base = omega arith

pub place-further : (base further : ℕ) (nodes : ViewNodes) (number index : ℕ) → place_among further nodes number (base + index)
    ≡ shift base (place_among further nodes number index)
place-further base further none number index = refl
place-further base further (more node nodes) number index =
    elim (nat_lt number (model_length node)) as
    (λ b. (if b then (base + index) ∷ place_in further node number else place_among further nodes (number - model_length node) (base + index + 1))
    ≡ shift base (if b then index ∷ place_in further node number else place_among further nodes (number - model_length node) (index + 1))) [
      | true ↦ refl
      | false ↦ ap (place_among further nodes (number - model_length node)) (further-on base index (index + 1) refl)
          ∙ place-further base further nodes (number - model_length node) (index + 1)
    ]

pub place-shifted : (further : ℕ) (nodes : ViewNodes) (number base : ℕ) → place_among further nodes number base
    ≡ shift base (place_among further nodes number 0)
place-shifted further nodes number base = ap (place_among further nodes number) (from-none base) ∙ place-further base further nodes number 0

pub gap-further : (base : ℕ) (nodes : ViewNodes) (number index : ℕ) → gap_among nodes number (base + index) ≡ shift base (gap_among nodes number index)
gap-further base none number index = refl
gap-further base (more node nodes) number index =
    elim (nat_lt number (model_length node)) as
    (λ b. (if b then (base + index) ∷ gap_in node number else gap_among nodes (number - model_length node) (base + index + 1))
    ≡ shift base (if b then index ∷ gap_in node number else gap_among nodes (number - model_length node) (index + 1))) [
      | true ↦ refl
      | false ↦ ap (gap_among nodes (number - model_length node)) (further-on base index (index + 1) refl)
          ∙ gap-further base nodes (number - model_length node) (index + 1)
    ]

gap-shifted : (nodes : ViewNodes) (number base : ℕ) → gap_among nodes number base ≡ shift base (gap_among nodes number 0)
gap-shifted nodes number base = ap (gap_among nodes number) (from-none base) ∙ gap-further base nodes number 0

if-shift : (b : Bool) (base : ℕ) (one other : List ℕ) → (if b then shift base one else shift base other) ≡ shift base (if b then one else other)
if-shift true base one other = refl
if-shift false base one other = refl

before-shifted : (nodes : ViewNodes) (number base : ℕ) → before_item nodes number base ≡ shift base (before_item nodes number 0)
before-shifted nodes number base =
    (λ i. if is_character (item_among nodes number) then place-shifted 0 nodes number base i else gap-shifted nodes number base i)
    ∙ if-shift (is_character (item_among nodes number)) base (place_among 0 nodes number 0) (gap_among nodes number 0)

pub seen-shifted : (nodes : ViewNodes) (number base : ℕ) → seen_among nodes number base ≡ shift base (seen_among nodes number 0)
seen-shifted nodes zero base = before-shifted nodes zero base
seen-shifted nodes (suc number) base =
    (λ i. if is_character (item_among nodes number) then place-shifted 1 nodes number base i else before-shifted nodes (suc number) base i)
    ∙ if-shift (is_character (item_among nodes number)) base (place_among 1 nodes number 0) (before_item nodes (suc number) 0)

-- ---- in a row

-- where each entry is found at a place that is not empty, so is any of pieces
pub in-pieces-some : (found : Found) → ((passed : Passed) (behind : Bool) → NotEmpty (found passed behind))
    → (pieces : Pieces) (number : ℕ) (passed : Passed) → NotEmpty (in_pieces found pieces number passed)
in-pieces-some found h nothing number passed = h passed false
in-pieces-some found h (first (bare content) pieces) number passed =
    elim (number == 0) as (λ b. NotEmpty (if b then found passed (begins_with_text pieces)
    else in_pieces found pieces (number - 1) (behind_content content passed))) [
      | true ↦ h passed (begins_with_text pieces)
      | false ↦ in-pieces-some found h pieces (number - 1) (behind_content content passed)
    ]
in-pieces-some found h (first (wrapped layer inner) pieces) number passed =
    elim (nat_lt number (pieces_size inner)) as
    (λ b. NotEmpty (if b then passed.nodes ∷ in_pieces found inner number none_passed
    else in_pieces found pieces (number - pieces_size inner) (node_more passed))) [
      | true ↦ tt
      | false ↦ in-pieces-some found h pieces (number - pieces_size inner) (node_more passed)
    ]

text-some : (passed : Passed) (behind : Bool) (in_text : Option ℕ) → NotEmpty (in_or_before_text passed behind in_text)
text-some passed behind (Some count) = tt
text-some passed true None = tt
text-some passed false None = tt

as-place-some : (passed : Passed) (behind : Bool) → NotEmpty (as_place passed behind)
as-place-some passed behind = text-some passed behind passed.in_text

as-node-some : (passed : Passed) (behind : Bool) → NotEmpty (as_node passed behind)
as-node-some passed behind = tt

pub boundary-some : (scene : Scene) (parent path : List ℕ) (list : List Item) (offset : ℕ) → NotEmpty (boundary_place scene parent path list offset)
boundary-some scene parent path list offset =
    let start = entries_before scene path offset in
    let here = path ++ offset ∷ [] in
    let mark = mark_at (row_of scene parent path list) start (start + length (boundary scene here)) (has_caret scene.caret here) in
    in-pieces-some as_place as-place-some (pieces_of mark.row) mark.number none_passed

pub node-some : (scene : Scene) (parent path : List ℕ) (list : List Item) (index : ℕ) → NotEmpty (node_place scene parent path list index)
node-some scene parent path list index =
    in-pieces-some as_node as-node-some (pieces_of (row_of scene parent path list))
    (entries_before scene path index + length (boundary scene (path ++ index ∷ []))) none_passed
