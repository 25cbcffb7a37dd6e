-- Where a boundary with a character before it or behind it is seen.
use Rattle.std.proofs.Common.{◌≡◌, ℕ, zero, suc, ◌+◌, List, [], ◌∷◌, true, false, Some, refl, sym, ap, ◌∙◌, subst, arith}
use Rattle.std.specs.Prelude.{slice_get, if◌then◌else◌}
use Rattle.view_definitions.specs.Node.{ViewNodes, none, more, nodes_of}
use Rattle.view_definitions.specs.Layer.{Layer}
use Rattle.view_definitions.specs.Row.{caret, Entry, pieces_of, nest}
use Rattle.downcast_definitions.specs.Place.{as_place}
use Rattle.downcast_definitions.specs.Meant.{Inners, meant_in}
use Rattle.downcast_definitions.specs.Seen.{marked, place_of}
use Rattle.downcast_definitions.proofs.Entries.{AllStand, contents_of, contents-row}
use Rattle.downcast_definitions.specs.Among.{place_among, item_among, is_character, before_item, gap_among, seen_among}
use Rattle.downcast_definitions.specs.Rule.{kind_at, kind_of}
use Rattle.downcast_definitions.proofs.PlaceKinds.{mark-kind}
use Rattle.downcast_definitions.specs.Rule.{text_before, text_behind}
use Rattle.downcast_definitions.proofs.TextPlaces.{Full, text-placed}

-- behind a character a boundary is seen in its text
pub seen-behind : (inners : Inners) (nodes : ViewNodes) (place : List ℕ) (number : ℕ) → Full nodes → kind_at nodes place ≡ Some true
    → meant_in inners 0 nodes place ≡ Some (number ∷ [])
    → seen_among nodes number 0 ≡ place
seen-behind inners none [] number full k e = cc
seen-behind inners (more node nodes) [] number full k e = cc
seen-behind inners nodes (index ∷ rest) number full k e =
    let p = text-placed inners nodes 0 0 index rest number true full k e in
    let is = p.is in
    let next : number ≡ suc p.number = omega (arith, is) in
    let z : 0 + index ≡ index = omega arith in
    ap (λ n. seen_among nodes n 0) next
    ∙ ap (λ b. if b then place_among 1 nodes p.number 0 else before_item nodes (suc p.number) 0) p.one
    ∙ p.place ∙ ap (λ n. n ∷ rest) z

-- else before a character at the start of its text
pub seen-before : (inners : Inners) (nodes : ViewNodes) (place : List ℕ) (number : ℕ) → Full nodes → kind_at nodes place ≡ Some false
    → meant_in inners 0 nodes place ≡ Some (number ∷ [])
    → ((before : ℕ) → number ≡ suc before → is_character (item_among nodes before) ≡ false) → seen_among nodes number 0 ≡ place
seen-before inners none [] number full k e n = cc
seen-before inners (more node nodes) [] number full k e n = cc
seen-before inners nodes (index ∷ rest) number full k e n =
    let p = text-placed inners nodes 0 0 index rest number false full k e in
    let is = p.is in
    let same : p.number ≡ number = omega (arith, is) in
    let z : 0 + index ≡ index = omega arith in
    let one : is_character (item_among nodes number) ≡ true = ap (λ m. is_character (item_among nodes m)) (sym same) ∙ p.one in
    first-case number n
    ∙ ap (λ b. if b then place_among 0 nodes number 0 else gap_among nodes number 0) one
    ∙ ap (λ m. place_among 0 nodes m 0) (sym same)
    ∙ p.place ∙ ap (λ n. n ∷ rest) z
  where
    first-case : (m : ℕ) → ((before : ℕ) → m ≡ suc before → is_character (item_among nodes before) ≡ false) → seen_among nodes m 0 ≡ before_item nodes m 0
    first-case zero h = refl
    first-case (suc m) h = ap (λ b. if b then place_among 1 nodes m 0 else before_item nodes (suc m) 0) (h m refl)

-- the kind of the place of a mark in a row that nests to the same nodes with the mark and without it
pub marked-kind : (row : List Entry) (number : ℕ) (layers : List Layer) → AllStand (contents_of (marked row number layers).row)
    → slice_get (contents_of (marked row number layers).row) number ≡ Some caret
    → nest (marked row number layers).row ≡ nest row
    → kind_at (nodes_of (nest row)) (place_of as_place (marked row number layers))
    ≡ kind_of (text_before false (pieces_of (marked row number layers).row) number) (text_behind (pieces_of (marked row number layers).row) number)
marked-kind row number layers s e n =
    ap (λ nodes. kind_at (nodes_of nodes) (place_of as_place (marked row number layers))) (sym n)
    ∙ mark-kind (pieces_of (marked row number layers).row) number (subst AllStand (sym (contents-row (marked row number layers).row)) s)
    (ap (λ cs. slice_get cs number) (contents-row (marked row number layers).row) ∙ e)
