-- Where a mark between nodes is found.
use Rattle.std.proofs.Common.{◌≡◌, ℕ, zero, suc, ◌+◌, ◌-◌, ◌<◌, ◌≤◌, List, [], ◌∷◌, ◌++◌, length, take, Bool, true, false, ◌&&◌, Option, Some, None, is_some}
use Rattle.std.proofs.Common.{refl, sym, ap, ◌∙◌, subst, length-append, arith}
use Rattle.std.proofs.lemmas.List.{take-append-le}
use Rattle.std.specs.Prelude.{slice_get, nat_lt, if◌then◌else◌}
use Rattle.view_definitions.specs.Node.{Head, ViewNode, ViewNodes, text, element, more, nodes_of}
use Rattle.view_definitions.specs.Layer.{Layer, in_layer, layer_head}
use Rattle.view_definitions.specs.Row.{Content, leaf, item, character, caret, Piece, Pieces, nothing, first, bare, wrapped, character_before, content_before}
use Rattle.view_definitions.specs.Row.{shown, join_node}
use Rattle.downcast_definitions.specs.Place.{pieces_size, Passed, none_passed, behind_content, begins_with_text, as_place, in_pieces}
use Rattle.downcast_definitions.specs.Meant.{model_length, inner_length}
use Rattle.downcast_definitions.proofs.Entries.{may_stand, AllStand, counted, items_in, contents, contents-size, stand-front, stand-rest, items-append}
use Rattle.downcast_definitions.proofs.Entries.{get-front, get-rest, take-rest, leaf-counts, item-counts, shown-counts}
use Rattle.ck_base.proofs.Common.{is_below, below, not_below, above, first as first_true, second as second_true}
use Rattle.downcast_definitions.specs.Among.{gap_in, gap_among}
use Rattle.downcast_definitions.specs.Rule.{after, text_before, text_behind}
use Rattle.downcast_definitions.proofs.Means.{character-joins, character-joins-behind, later}

-- whether pieces begin with an item
abbrev pub starts_item : Pieces → Bool
starts_item nothing = false
starts_item (first (bare (leaf node)) pieces) = false
starts_item (first (bare (item node)) pieces) = true
starts_item (first (bare (character scalar)) pieces) = true
starts_item (first (bare caret) pieces) = false
starts_item (first (wrapped layer inner) pieces) = starts_item inner

abbrev pub open_behind : Pieces → Bool
open_behind nothing = true
open_behind (first piece pieces) = starts_item (first piece pieces)

-- how many items stand before an entry
abbrev pub before : Pieces → ℕ → ℕ
before pieces number = items_in (take number (contents pieces))

-- whether an entry stands behind all that shows no item, and each attribute element around it goes on across it
abbrev pub fits : Pieces → ℕ → Bool
fits nothing number = false
fits (first (bare content) pieces) zero = open_behind pieces
fits (first (bare content) pieces) (suc number) = fits pieces number
fits (first (wrapped layer inner) pieces) number =
    if nat_lt number (pieces_size inner) then fits inner number && (nat_lt 0 (before inner number) && nat_lt (before inner number) (items_in (contents inner)))
    else fits pieces (number - pieces_size inner)

-- ---- what nodes do

-- behind a node that is passed
pass : (node : ViewNode) (nodes : ViewNodes) (number rest index : ℕ) → number ≡ model_length node + rest → gap_among (more node nodes) number index
    ≡ gap_among nodes rest (index + 1)
pass node nodes number rest index e =
    let less : number - model_length node ≡ rest = omega (arith, e) in
    ap (λ t. if t then index ∷ gap_in node number else gap_among nodes (number - model_length node) (index + 1))
    (above number (model_length node) (omega (arith, e)))
    ∙ ap (λ n. gap_among nodes n (index + 1)) less

-- in the attribute element of a layer
enter : (layer : Layer) (inside : List ViewNode) (nodes : ViewNodes) (number index : ℕ) → 0 < number → number < inner_length (nodes_of inside)
    → gap_among (more (in_layer layer inside) nodes) number index ≡ index ∷ gap_among (nodes_of inside) number 0
enter layer inside nodes zero index h b = absurd (omega (arith, h))
enter layer inside nodes (suc number) index h b =
    ap (λ t. if t then index ∷ gap_among (nodes_of inside) (suc number) 0
    else gap_among nodes (suc number - inner_length (nodes_of inside)) (index + 1)) (below (suc number) (inner_length (nodes_of inside)) b)

-- before a node that shows an item
gap-first : (node : ViewNode) → gap_in node 0 ≡ []
gap-first (text scalars) = refl
gap-first (element head children) = refl

stop : (node : ViewNode) (nodes : ViewNodes) (index : ℕ) → 0 < model_length node → gap_among (more node nodes) 0 index ≡ index ∷ []
stop node nodes index h =
    ap (λ t. if t then index ∷ gap_in node 0 else gap_among nodes (0 - model_length node) (index + 1)) (below 0 (model_length node) h)
    ∙ ap (λ list. index ∷ list) (gap-first node)

-- that the first of some nodes shows an item
abbrev FirstShows : List ViewNode → Type 0
FirstShows [] = ⊥
FirstShows (node ∷ nodes) = 0 < model_length node

character-shows : (scalar : ℕ) (nodes : List ViewNode) → FirstShows (character_before scalar nodes)
character-shows scalar [] = omega arith
character-shows scalar (text scalars ∷ nodes) = omega arith
character-shows scalar (element head children ∷ nodes) = omega arith

shows-within : (nodes : List ViewNode) → FirstShows nodes → 0 < inner_length (nodes_of nodes)
shows-within [] h = absurd h
shows-within (node ∷ nodes) h = omega (arith, h)

item-first : (pieces : Pieces) → AllStand (contents pieces) → starts_item pieces ≡ true → FirstShows (shown pieces)
item-first nothing s e = cc
item-first (first (bare (leaf node)) pieces) s e = cc
item-first (first (bare (item node)) pieces) s e = (let one = item-counts node s.0 in omega (arith, one))
item-first (first (bare (character scalar)) pieces) s e = character-shows scalar (shown pieces)
item-first (first (bare caret) pieces) s e = cc
item-first (first (wrapped layer inner) pieces) s e = shows-within (shown inner) (item-first inner (stand-front (contents inner) (contents pieces) s) e)

stop-nodes : (nodes : List ViewNode) (index : ℕ) → FirstShows nodes → gap_among (nodes_of nodes) 0 index ≡ index ∷ []
stop-nodes [] index h = absurd h
stop-nodes (node ∷ nodes) index h = stop node (nodes_of nodes) index h

stop-here : (pieces : Pieces) (index : ℕ) → AllStand (contents pieces) → open_behind pieces ≡ true → gap_among (nodes_of (shown pieces)) 0 index ≡ index ∷ []
stop-here nothing index s e = refl
stop-here (first piece pieces) index s e = stop-nodes (shown (first piece pieces)) index (item-first (first piece pieces) s e)

-- ---- joined texts

-- ---- the place that is found

-- that it is the gap: behind no text, and behind one of this length, which is the last node that was passed
abbrev IsGap : Pieces → ℕ → ℕ → Option ℕ → List ℕ → Type 0
IsGap pieces number count None place = place ≡ gap_among (nodes_of (shown pieces)) (before pieces number) count
IsGap pieces number count (Some len) place =
    (scalars : List ℕ) (index : ℕ) → length scalars ≡ len → count ≡ suc index
    → place ≡ gap_among (nodes_of (join_node (text scalars) (shown pieces))) (len + before pieces number) index

abbrev Claim : Pieces → Type 0
Claim pieces =
    (number count : ℕ) (was : Option ℕ) → AllStand (contents pieces) → slice_get (contents pieces) number ≡ Some caret → fits pieces number ≡ true
    → text_before (is_some was) pieces number ≡ false → text_behind pieces number ≡ false
    → IsGap pieces number count was (in_pieces as_place pieces number (record { nodes = count; in_text = was }))

-- behind an element that shows so many items
element-gap : (head : Head) (children : ViewNodes) (counts : ℕ) (pieces : Pieces) (number count all : ℕ) (was : Option ℕ) (place : List ℕ)
    → model_length (element head children) ≡ counts
    → place ≡ gap_among (nodes_of (shown pieces)) (before pieces number) (count + 1) → all ≡ counts + before pieces number → (o : Option ℕ) → was ≡ o
    → place ≡ gap_among (more (element head children) (nodes_of (shown pieces))) all count
element-gap head children counts pieces number count all was place l e same o w =
    e ∙ sym (pass (element head children) (nodes_of (shown pieces)) all (before pieces number) count (omega (arith, l, same)))

-- and behind a text before it
text-gap : (scalars : List ℕ) (len : ℕ) (nodes : ViewNodes) (rest count index : ℕ) (place : List ℕ) → length scalars ≡ len → count ≡ suc index
    → place ≡ gap_among nodes rest count
    → place ≡ gap_among (more (text scalars) nodes) (len + rest) index
text-gap scalars len nodes rest count index place l c e =
    e ∙ ap (gap_among nodes rest) (omega (arith, c)) ∙ sym (pass (text scalars) nodes (len + rest) rest index (omega (arith, l)))

node-behind : (head : Head) (children : ViewNodes) (content : Content) (pieces : Pieces) (number count : ℕ) (was : Option ℕ) (place : List ℕ)
    → model_length (element head children) ≡ counted content
    → ((list : List ViewNode) → content_before content list ≡ element head children ∷ list)
    → place ≡ gap_among (nodes_of (shown pieces)) (before pieces number) (count + 1) → IsGap (first (bare content) pieces) (suc number) count was place
node-behind head children content pieces number count None place l c e =
    element-gap head children (counted content) pieces number count (counted content + before pieces number) None place l e refl None refl
    ∙ ap (λ list. gap_among (nodes_of list) (counted content + before pieces number) count) (sym (c (shown pieces)))
node-behind head children content pieces number count (Some len) place l c e = λ scalars index long is.
    text-gap scalars len (more (element head children) (nodes_of (shown pieces))) (counted content + before pieces number) count index place long is
    (element-gap head children (counted content) pieces number count (counted content + before pieces number) None place l e refl None refl)
    ∙ ap (λ list. gap_among (nodes_of (join_node (text scalars) list)) (len + (counted content + before pieces number)) index) (sym (c (shown pieces)))

content-gap : (content : Content) (pieces : Pieces) (number count : ℕ) (was : Option ℕ) → may_stand content ≡ true
    → (let passed : Passed = behind_content content (record { nodes = count; in_text = was })
    in IsGap pieces number passed.nodes passed.in_text (in_pieces as_place pieces number passed))
    → IsGap (first (bare content) pieces) (suc number) count was
    (in_pieces as_place pieces number (behind_content content (record { nodes = count; in_text = was })))
content-gap (leaf (text scalars)) pieces number count was s h = cc
content-gap (leaf (element head children)) pieces number count was s h = node-behind head children (leaf (element head children)) pieces number count
    was _ (leaf-counts (element head children) s) (λ list. refl) h
content-gap (item (text scalars)) pieces number count was s h = cc
content-gap (item (element head children)) pieces number count was s h = node-behind head children (item (element head children)) pieces number count
    was _ (item-counts (element head children) s) (λ list. refl) h
content-gap (character scalar) pieces number count None s h =
    h (scalar ∷ []) count refl (omega arith)
    ∙ ap (λ list. gap_among (nodes_of list) (1 + before pieces number) count) (sym (character-joins scalar (shown pieces)))
content-gap (character scalar) pieces number count (Some len) s h = λ scalars index long is.
    h (scalars ++ scalar ∷ []) index (length-append scalars (scalar ∷ []) ∙ ap (λ n. n + 1) long) is
    ∙ (let n : len + 1 + before pieces number ≡ len + (1 + before pieces number) = omega arith in
    λ i. gap_among (nodes_of (sym (character-joins-behind scalars scalar (shown pieces)) i)) (n i) index)
content-gap caret pieces number count None s h = h ∙ ap (λ n. gap_among (nodes_of (shown pieces)) n count) (omega arith)
content-gap caret pieces number count (Some len) s h = λ scalars index long is.
    h scalars index long is ∙ ap (λ n. gap_among (nodes_of (join_node (text scalars) (shown pieces))) n index) (omega arith)

pub in_text-after : (content : Content) (count : ℕ) (was : Option ℕ)
    → is_some (behind_content content (record { nodes = count; in_text = was })).in_text ≡ after content (is_some was)
in_text-after (leaf node) count was = refl
in_text-after (item node) count was = refl
in_text-after (character scalar) count None = refl
in_text-after (character scalar) count (Some len) = refl
in_text-after caret count was = refl

bare-gap : (next : Content) (pieces : Pieces) → Claim pieces → Claim (first (bare next) pieces)
bare-gap next pieces ih zero count (Some len) s e f b t = cc
bare-gap next pieces ih zero count None s e f b t =
    let same : next ≡ caret = (let k : Some next ≡ Some caret = e in cc) in
    subst (λ c. as_place (record { nodes = count; in_text = None }) (begins_with_text pieces)
    ≡ gap_among (nodes_of (content_before c (shown pieces))) 0 count) (sym same)
    (ap (as_place (record { nodes = count; in_text = None })) t ∙ sym (stop-here pieces count s.1 f))
bare-gap next pieces ih (suc number) count was s e f b t =
    let passed : Passed = behind_content next (record { nodes = count; in_text = was }) in
    subst (IsGap (first (bare next) pieces) (suc number) count was)
    (sym (later number (as_place (record { nodes = count; in_text = was }) (begins_with_text pieces))
    (λ n. in_pieces as_place pieces n (behind_content next (record { nodes = count; in_text = was })))))
    (content-gap next pieces number count was s.0
    (ih number passed.nodes passed.in_text s.1 e f (ap (λ w. text_before w pieces number) (in_text-after next count was) ∙ b) t))

-- at an index of nodes, behind a text or not
placed-gap : (head : Head) (children : ViewNodes) (nodes : List ViewNode) (was : Option ℕ) (count number : ℕ) (place : List ℕ)
    → place ≡ gap_among (more (element head children) (nodes_of nodes)) number count
    → (was ≡ None → place ≡ gap_among (nodes_of (element head children ∷ nodes)) number count)
    × ((scalars : List ℕ) (len index : ℕ) → length scalars ≡ len → count ≡ suc index
    → place ≡ gap_among (nodes_of (join_node (text scalars) (element head children ∷ nodes))) (len + number) index)
placed-gap head children nodes was count number place e =
    (λ w. e, λ scalars len index long is. text-gap scalars len (more (element head children) (nodes_of nodes)) number count index place long is e)

layer-gap : (layer : Layer) (inner pieces : Pieces) (number count items : ℕ) (was : Option ℕ) (place : List ℕ)
    → items ≡ before (first (wrapped layer inner) pieces) number
    → place ≡ gap_among (more (in_layer layer (shown inner)) (nodes_of (shown pieces))) items count
    → IsGap (first (wrapped layer inner) pieces) number count was place
layer-gap layer inner pieces number count items None place i e =
    e ∙ ap (λ n. gap_among (more (in_layer layer (shown inner)) (nodes_of (shown pieces))) n count) i
layer-gap layer inner pieces number count items (Some len) place i e = λ scalars index long is.
    (placed-gap (layer_head layer) (nodes_of (shown inner)) (shown pieces) (Some len) count items place e).1 scalars len index long is
    ∙ ap (λ n. gap_among (more (text scalars) (more (in_layer layer (shown inner)) (nodes_of (shown pieces)))) (len + n) index) i

wrapped-gap : (layer : Layer) (inner pieces : Pieces) → Claim inner → Claim pieces → Claim (first (wrapped layer inner) pieces)
wrapped-gap layer inner pieces within ih number count was s e f b t = go (nat_lt number (pieces_size inner)) refl f b t
  where
    size : pieces_size inner ≡ length (contents inner)
    size = contents-size inner

    shows : inner_length (nodes_of (shown inner)) ≡ items_in (contents inner)
    shows = shown-counts inner (stand-front (contents inner) (contents pieces) s)

    go : (test : Bool) → nat_lt number (pieces_size inner) ≡ test
        → (if test then fits inner number && (nat_lt 0 (before inner number) && nat_lt (before inner number) (items_in (contents inner)))
        else fits pieces (number - pieces_size inner)) ≡ true
        → (if test then text_before false inner number else text_before false pieces (number - pieces_size inner)) ≡ false
        → (if test then text_behind inner number else text_behind pieces (number - pieces_size inner)) ≡ false
        → IsGap (first (wrapped layer inner) pieces) number count was (if test then count ∷ in_pieces as_place inner number none_passed
        else in_pieces as_place pieces (number - pieces_size inner) (record { nodes = count + 1; in_text = None }))
    go true k f b t =
        let less : number < length (contents inner) = (let l : number < pieces_size inner = is_below _ _ k in let z = size in omega (arith, l, z)) in
        let fit : fits inner number ≡ true = first_true (fits inner number) _ f in
        let around = second_true (fits inner number) (nat_lt 0 (before inner number) && nat_lt (before inner number) (items_in (contents inner))) f in
        let some : 0 < before inner number = is_below _ _ (first_true (nat_lt 0 (before inner number)) _ around) in
        let few : before inner number < items_in (contents inner) = is_below _ _ (second_true (nat_lt 0 (before inner number)) _ around) in
        let all = shows in
        layer-gap layer inner pieces number count (before inner number) was _
        (ap items_in (sym (take-append-le number (contents inner) (contents pieces) (omega (arith, less)))))
        (ap (λ place. count ∷ place)
        (within number 0 None (stand-front (contents inner) (contents pieces) s) (sym (get-front (contents inner) (contents pieces) number less) ∙ e) fit b t)
        ∙ sym (enter layer (shown inner) (nodes_of (shown pieces)) (before inner number) count some (omega (arith, few, all))))
    go false k f b t =
        let l : pieces_size inner ≤ number = not_below _ _ k in
        let z = size in
        let all = shows in
        let place : number ≡ length (contents inner) + (number - pieces_size inner) = omega (arith, l, z) in
        layer-gap layer inner pieces number count (items_in (contents inner) + before pieces (number - pieces_size inner)) was _
        (sym (ap items_in (take-rest (contents inner) (contents pieces) (number - pieces_size inner) number place)
        ∙ items-append (contents inner) (take (number - pieces_size inner) (contents pieces))))
        (ih (number - pieces_size inner) (count + 1) None (stand-rest (contents inner) (contents pieces) s)
        (sym (get-rest (contents inner) (contents pieces) (number - pieces_size inner) number place) ∙ e) f b t
        ∙ sym (pass (in_layer layer (shown inner)) (nodes_of (shown pieces)) (items_in (contents inner) + before pieces (number - pieces_size inner))
        (before pieces (number - pieces_size inner)) count (omega (arith, all))))

mutual
  piece-gap : (piece : Piece) (pieces : Pieces) → Claim pieces → Claim (first piece pieces)
  piece-gap (bare next) pieces ih = bare-gap next pieces ih
  piece-gap (wrapped layer inner) pieces ih = wrapped-gap layer inner pieces (pieces-gap inner) ih

  pieces-gap : (pieces : Pieces) → Claim pieces
  pieces-gap nothing = λ number count was s e f b t. cc
  pieces-gap (first piece pieces) = piece-gap piece pieces (pieces-gap pieces)

-- a mark that fits between nodes is found in the gap
pub mark-gap : (pieces : Pieces) (number : ℕ) → AllStand (contents pieces) → slice_get (contents pieces) number ≡ Some caret → fits pieces number ≡ true
    → text_before false pieces number ≡ false → text_behind pieces number ≡ false
    → in_pieces as_place pieces number none_passed ≡ gap_among (nodes_of (shown pieces)) (before pieces number) 0
mark-gap pieces number s e f b t = pieces-gap pieces number 0 None s e f b t
