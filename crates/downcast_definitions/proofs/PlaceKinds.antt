-- Whether the place that is found for a mark is in a text, at its start or behind a character, or between nodes.
use Rattle.std.proofs.Common.{◌≡◌, ℕ, zero, suc, ◌+◌, ◌-◌, ◌<◌, ◌≤◌, List, [], ◌∷◌, ◌++◌, length, Bool, true, false, Option, Some, None, is_some, refl, sym, ap}
use Rattle.std.proofs.Common.{◌∙◌, subst, length-append, arith}
use Rattle.std.proofs.lemmas.Bool.Decides.{nat_tests}
use Rattle.std.specs.Prelude.{slice_get, nat_lt, if◌then◌else◌}
use Rattle.view_definitions.specs.Node.{Kind, container, attribute, empty, ui, Head, ViewNode, ViewNodes, text, element, none, more, nodes_of}
use Rattle.view_definitions.specs.Layer.{Layer, in_layer, layer_head}
use Rattle.view_definitions.specs.Row.{Content, leaf, item, character, caret, Piece, Pieces, nothing, first, bare, wrapped, character_before, content_before}
use Rattle.view_definitions.specs.Row.{shown, join_node}
use Rattle.downcast_definitions.specs.Place.{pieces_size, Passed, none_passed, character_more, behind_content, begins_with_text, as_place, in_pieces}
use Rattle.downcast_definitions.proofs.Entries.{may_stand, AllStand, contents, contents-size, stand-front, stand-rest, get-front, get-rest}
use Rattle.downcast_definitions.proofs.Means.{character-joins, character-joins-behind, starts_text, shown-starts, later}
use Rattle.ck_base.proofs.Common.{is_below, not_below}
use Rattle.downcast_definitions.specs.Among.{by_around}
use Rattle.downcast_definitions.specs.Rule.{text_before, text_behind, kind_at, kind_of}
use Rattle.downcast_definitions.proofs.Gaps.{in_text-after}

-- how places behind a text are read, and places behind nodes
record InText (reads : List ℕ → Option Bool) (nodes : List ViewNode) (count len : ℕ) : Type 0 where
  pub scalars : List ℕ
  pub long : length scalars ≡ len
  pub full : 1 ≤ len
  pub some : 1 ≤ count
  pub reading : (at index : ℕ) (rest : List ℕ) → suc at ≡ count + index → reads (at ∷ rest) ≡ kind_at (nodes_of (join_node (text scalars) nodes)) (index ∷ rest)

abbrev ReadsFrom : (List ℕ → Option Bool) → List ViewNode → ℕ → Option ℕ → Type 0
ReadsFrom reads nodes count None = (at index : ℕ) (rest : List ℕ) → at ≡ count + index → reads (at ∷ rest) ≡ kind_at (nodes_of nodes) (index ∷ rest)
ReadsFrom reads nodes count (Some len) = InText reads nodes count len

abbrev Reads : (List ℕ → Option Bool) → List ViewNode → Passed → Type 0
Reads reads nodes passed = ReadsFrom reads nodes passed.nodes passed.in_text

reads-node : (reads : List ℕ → Option Bool) (head : Head) (children : ViewNodes) (nodes : List ViewNode) (count : ℕ) (was : Option ℕ)
    → ReadsFrom reads (element head children ∷ nodes) count was → ReadsFrom reads nodes (count + 1) None
reads-node reads head children nodes count None h = λ at index rest e. h at (suc index) rest (omega (arith, e))
reads-node reads head children nodes count (Some len) h = λ at index rest k. h.reading at (suc (suc index)) rest (omega (arith, k))

reads-character : (reads : List ℕ → Option Bool) (scalar : ℕ) (nodes : List ViewNode) (count : ℕ) (was : Option ℕ)
    → ReadsFrom reads (character_before scalar nodes) count was → Reads reads nodes (character_more count was)
reads-character reads scalar nodes count None h = record {
  scalars = scalar ∷ [];
  long = refl;
  full = omega arith;
  some = omega arith;
  reading = λ at index rest e. h at index rest (omega (arith, e)) ∙ ap (λ all. kind_at (nodes_of all) (index ∷ rest)) (character-joins scalar nodes);
}
reads-character reads scalar nodes count (Some len) h = record {
  scalars = h.scalars ++ scalar ∷ [];
  long = length-append h.scalars (scalar ∷ []) ∙ ap (λ n. n + 1) h.long;
  full = omega arith;
  some = h.some;
  reading = λ at index rest e. h.reading at index rest e ∙ ap (λ all. kind_at (nodes_of all) (index ∷ rest)) (character-joins-behind h.scalars scalar nodes);
}

reads-within : (reads : List ℕ → Option Bool) (layer : Layer) (inside nodes : List ViewNode) (count : ℕ) (was : Option ℕ)
    → ReadsFrom reads (in_layer layer inside ∷ nodes) count was → Reads (λ place. reads (count ∷ place)) inside none_passed
reads-within reads layer inside nodes count None h = λ at index rest e.
    h count 0 (at ∷ rest) (omega arith) ∙ ap (λ n. kind_at (nodes_of inside) (n ∷ rest)) (omega (arith, e))
reads-within reads layer inside nodes count (Some len) h = λ at index rest e.
    h.reading count 1 (at ∷ rest) (omega arith) ∙ ap (λ n. kind_at (nodes_of inside) (n ∷ rest)) (omega (arith, e))

reads-behind : (reads : List ℕ → Option Bool) (content : Content) (nodes : List ViewNode) (passed : Passed) → may_stand content ≡ true
    → Reads reads (content_before content nodes) passed → Reads reads nodes (behind_content content passed)
reads-behind reads (leaf (text scalars)) nodes passed e h = cc
reads-behind reads (leaf (element head children)) nodes passed e h = reads-node reads head children nodes passed.nodes passed.in_text h
reads-behind reads (item (text scalars)) nodes passed e h = cc
reads-behind reads (item (element head children)) nodes passed e h = reads-node reads head children nodes passed.nodes passed.in_text h
reads-behind reads (character scalar) nodes passed e h = reads-character reads scalar nodes passed.nodes passed.in_text h
reads-behind reads caret nodes passed e h = h

kind-nowhere : (nodes : ViewNodes) → kind_at nodes [] ≡ None
kind-nowhere none = refl
kind-nowhere (more node nodes) = refl

kind-around : (kind : Kind) (o : Option Bool) → o ≡ None → by_around kind o None ≡ None
kind-around container o e = refl
kind-around (attribute priority id) o e = e
kind-around empty o e = refl
kind-around ui o e = refl

first-kind : (nodes : List ViewNode) → kind_at (nodes_of nodes) (0 ∷ []) ≡ None
first-kind [] = refl
first-kind (text scalars ∷ nodes) = refl
first-kind (element head children ∷ nodes) = kind-around head.kind _ (kind-nowhere children)

start-kind : (nodes : List ViewNode) → starts_text nodes ≡ true → kind_at (nodes_of nodes) (0 ∷ 0 ∷ []) ≡ Some false
start-kind [] e = cc
start-kind (text scalars ∷ nodes) e = refl
start-kind (element head children ∷ nodes) e = cc

is_above : (n : ℕ) → 1 ≤ n → nat_lt 0 n ≡ true
is_above n h = grind (arith, nat_tests)

joined-kind : (scalars : List ℕ) (nodes : List ViewNode) (len : ℕ) → 1 ≤ len → kind_at (nodes_of (join_node (text scalars) nodes)) (0 ∷ len ∷ []) ≡ Some true
joined-kind scalars [] len h = ap Some (is_above len h)
joined-kind scalars (text others ∷ nodes) len h = ap Some (is_above len h)
joined-kind scalars (element head children ∷ nodes) len h = ap Some (is_above len h)

place-kind : (reads : List ℕ → Option Bool) (nodes : List ViewNode) (count : ℕ) (was : Option ℕ) (behind : Bool)
    → (behind ≡ true → starts_text nodes ≡ true) → ReadsFrom reads nodes count was
    → reads (as_place (record { nodes = count; in_text = was }) behind) ≡ kind_of (is_some was) behind
place-kind reads nodes count None true s h = h count 0 (0 ∷ []) (omega arith) ∙ start-kind nodes (s refl)
place-kind reads nodes count None false s h = h count 0 [] (omega arith) ∙ first-kind nodes
place-kind reads nodes count (Some len) behind s h =
    let some : 1 ≤ count = h.some in
    h.reading (count - 1) 0 (len ∷ []) (omega (arith, some)) ∙ joined-kind h.scalars nodes len h.full

abbrev Claim : Pieces → Type 0
Claim pieces =
    (number count : ℕ) (was : Option ℕ) (reads : List ℕ → Option Bool) → AllStand (contents pieces) → slice_get (contents pieces) number ≡ Some caret
    → ReadsFrom reads (shown pieces) count was
    → reads (in_pieces as_place pieces number (record { nodes = count; in_text = was }))
    ≡ kind_of (text_before (is_some was) pieces number) (text_behind pieces number)

bare-kind : (next : Content) (pieces : Pieces) → Claim pieces → Claim (first (bare next) pieces)
bare-kind next pieces ih zero count was reads s e h =
    let same : next ≡ caret = (let k : Some next ≡ Some caret = e in cc) in
    place-kind reads (shown pieces) count was (begins_with_text pieces) (shown-starts pieces)
    (subst (λ c. ReadsFrom reads (content_before c (shown pieces)) count was) same h)
bare-kind next pieces ih (suc number) count was reads s e h =
    let passed : Passed = behind_content next (record { nodes = count; in_text = was }) in
    ap reads (later number (as_place (record { nodes = count; in_text = was }) (begins_with_text pieces))
    (λ n. in_pieces as_place pieces n (behind_content next (record { nodes = count; in_text = was }))))
    ∙ ih number passed.nodes passed.in_text reads s.1 e (reads-behind reads next (shown pieces) (record { nodes = count; in_text = was }) s.0 h)
    ∙ ap (λ b. kind_of (text_before b pieces number) (text_behind pieces number)) (in_text-after next count was)

wrapped-kind : (layer : Layer) (inner pieces : Pieces) → Claim inner → Claim pieces → Claim (first (wrapped layer inner) pieces)
wrapped-kind layer inner pieces within ih number count was reads s e h =
    let size : pieces_size inner ≡ length (contents inner) = contents-size inner in
    elim (nat_lt number (pieces_size inner)) as (λ b. nat_lt number (pieces_size inner) ≡ b
    → reads (if b then count ∷ in_pieces as_place inner number none_passed
    else in_pieces as_place pieces (number - pieces_size inner) (record { nodes = count + 1; in_text = None }))
    ≡ kind_of (if b then text_before false inner number else text_before false pieces (number - pieces_size inner)) (if b
    then text_behind inner number else text_behind pieces (number - pieces_size inner))) [
      | true ↦ λ b.
          let below : number < length (contents inner) = (let k : number < pieces_size inner = is_below _ _ b in omega (arith, k, size)) in
          within number 0 None (λ place. reads (count ∷ place)) (stand-front (contents inner) (contents pieces) s)
          (sym (get-front (contents inner) (contents pieces) number below) ∙ e)
          (reads-within reads layer (shown inner) (shown pieces) count was h)
      | false ↦ λ b.
          let k : pieces_size inner ≤ number = not_below _ _ b in
          let place : number ≡ length (contents inner) + (number - pieces_size inner) = omega (arith, k, size) in
          ih (number - pieces_size inner) (count + 1) None reads (stand-rest (contents inner) (contents pieces) s)
          (sym (get-rest (contents inner) (contents pieces) (number - pieces_size inner) number place) ∙ e)
          (reads-node reads (layer_head layer) (nodes_of (shown inner)) (shown pieces) count was h)
    ] refl

mutual
  piece-kind : (piece : Piece) (pieces : Pieces) → Claim pieces → Claim (first piece pieces)
  piece-kind (bare next) pieces ih = bare-kind next pieces ih
  piece-kind (wrapped layer inner) pieces ih = wrapped-kind layer inner pieces (pieces-kind inner) ih

  pieces-kind : (pieces : Pieces) → Claim pieces
  pieces-kind nothing = λ number count was reads s e h. cc
  pieces-kind (first piece pieces) = piece-kind piece pieces (pieces-kind pieces)

-- the kind of a mark's place, by what stands right before and behind the mark
pub mark-kind : (pieces : Pieces) (number : ℕ) → AllStand (contents pieces) → slice_get (contents pieces) number ≡ Some caret
    → kind_at (nodes_of (shown pieces)) (in_pieces as_place pieces number none_passed) ≡ kind_of (text_before false pieces number) (text_behind pieces number)
mark-kind pieces number s e =
    pieces-kind pieces number 0 None (kind_at (nodes_of (shown pieces))) s e
    (λ at index rest k. ap (λ n. kind_at (nodes_of (shown pieces)) (n ∷ rest)) (omega (arith, k)))
