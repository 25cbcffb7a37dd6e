-- The place that is found for an entry of a row means what stands before the entry.
use Rattle.std.proofs.Common.{◌≡◌, ℕ, ◌+◌, ◌-◌, ◌<◌, ◌≤◌, zero, suc, List, [], ◌∷◌, ◌++◌, take, length, Bool, true, false, if◌then◌else◌, Option, Some, None}
use Rattle.std.proofs.Common.{refl, sym, ap, ◌∙◌, subst, append_assoc, append-nil, arith, length-append}
use Rattle.std.proofs.lemmas.List.{take-append-le}
use Rattle.std.proofs.lemmas.Bool.{le-leb}
use Rattle.std.specs.Prelude.{slice_get, nat_lt, ◌==◌}
use Rattle.view_definitions.specs.Node.{Kind, container, attribute, empty, ui, Head, ViewNode, ViewNodes, text, element, nodes_of}
use Rattle.view_definitions.specs.Layer.{Layer, in_layer, layer_head}
use Rattle.view_definitions.specs.Row.{Content, leaf, item, character, caret, Entry, Piece, Pieces, nothing, first, bare, wrapped, pieces_of, character_before}
use Rattle.view_definitions.specs.Row.{content_before, shown, nest, join_node, is_item_kind, is_element}
use Rattle.downcast_definitions.specs.Place.{pieces_size, Passed, none_passed, node_more, character_more, behind_content, begins_with_text, Found, as_place}
use Rattle.downcast_definitions.specs.Place.{as_node, in_pieces}
use Rattle.downcast_definitions.specs.Meant.{model_length, inner_length, Inners, in_text, in_item, by_kind, meant_in}
use Rattle.downcast_definitions.proofs.Entries.{may_stand, AllStand, counted, items_in, contents, contents_of, contents-size, contents-row, stand-front}
use Rattle.downcast_definitions.proofs.Entries.{stand-rest, items-append, get-front, get-rest, take-rest, leaf-counts, item-counts, shown-counts}
use Rattle.ck_base.proofs.Common.{is_below, not_below, not_zero}

-- How places behind a text of this length, the last of `count` nodes, are read: so many items stand before the text, and it goes on with the
-- nodes that are still to come.
pub record InText (inners : Inners) (reads : List ℕ → Option (List ℕ)) (offset : ℕ) (nodes : List ViewNode) (count len : ℕ) : Type 0 where
  pub before : ℕ
  pub scalars : List ℕ
  pub long : length scalars ≡ len
  pub offset_is : offset ≡ before + len
  pub some : 1 ≤ count
  pub reading : (at index : ℕ) (rest : List ℕ) → suc at ≡ count + index
      → reads (at ∷ rest) ≡ meant_in inners before (nodes_of (join_node (text scalars) nodes)) (index ∷ rest)

abbrev pub ReadsFrom : Inners → (List ℕ → Option (List ℕ)) → ℕ → List ViewNode → ℕ → Option ℕ → Type 0
ReadsFrom inners reads offset nodes count None =
    (at index : ℕ) (rest : List ℕ) → at ≡ count + index → reads (at ∷ rest) ≡ meant_in inners offset (nodes_of nodes) (index ∷ rest)
ReadsFrom inners reads offset nodes count (Some len) = InText inners reads offset nodes count len

-- That places are read in a list of nodes of which these are still to come, behind what was passed, before which so many items stand
abbrev pub Reads : Inners → (List ℕ → Option (List ℕ)) → ℕ → List ViewNode → Passed → Type 0
Reads inners reads offset nodes passed = ReadsFrom inners reads offset nodes passed.nodes passed.in_text

-- behind an element
pub reads-node : (inners : Inners) (reads : List ℕ → Option (List ℕ)) (offset : ℕ) (head : Head) (children : ViewNodes) (nodes : List ViewNode)
    (count : ℕ) (was : Option ℕ)
    → ReadsFrom inners reads offset (element head children ∷ nodes) count was
    → ReadsFrom inners reads (offset + model_length (element head children)) nodes (count + 1) None
reads-node inners reads offset head children nodes count None h = λ at index rest e. h at (suc index) rest (omega (arith, e))
reads-node inners reads offset head children nodes count (Some len) h =
    let e : h.before + length h.scalars ≡ offset = ap (λ n. h.before + n) h.long ∙ sym h.offset_is in
    λ at index rest k.
    h.reading at (suc (suc index)) rest (omega (arith, k))
    ∙ ap (λ o. meant_in inners (o + model_length (element head children)) (nodes_of nodes) (index ∷ rest)) e

pub character-joins : (scalar : ℕ) (nodes : List ViewNode) → character_before scalar nodes ≡ join_node (text (scalar ∷ [])) nodes
character-joins scalar [] = refl
character-joins scalar (text scalars ∷ nodes) = refl
character-joins scalar (element head children ∷ nodes) = refl

pub character-joins-behind : (scalars : List ℕ) (scalar : ℕ) (nodes : List ViewNode) → join_node (text scalars) (character_before scalar nodes)
    ≡ join_node (text (scalars ++ scalar ∷ [])) nodes
character-joins-behind scalars scalar [] = refl
character-joins-behind scalars scalar (text others ∷ nodes) = ap (λ all. text all ∷ nodes) (sym (append_assoc scalars (scalar ∷ []) others))
character-joins-behind scalars scalar (element head children ∷ nodes) = refl

-- behind a character
pub reads-character : (inners : Inners) (reads : List ℕ → Option (List ℕ)) (offset scalar : ℕ) (nodes : List ViewNode) (count : ℕ) (was : Option ℕ)
    → ReadsFrom inners reads offset (character_before scalar nodes) count was
    → Reads inners reads (offset + 1) nodes (character_more count was)
reads-character inners reads offset scalar nodes count None h = record {
  before = offset;
  scalars = scalar ∷ [];
  long = refl;
  offset_is = refl;
  some = omega arith;
  reading = λ at index rest e.
      h at index rest (omega (arith, e)) ∙ ap (λ all. meant_in inners offset (nodes_of all) (index ∷ rest)) (character-joins scalar nodes);
}
reads-character inners reads offset scalar nodes count (Some len) h = record {
  before = h.before;
  scalars = h.scalars ++ scalar ∷ [];
  long = length-append h.scalars (scalar ∷ []) ∙ ap (λ n. n + 1) h.long;
  offset_is = let e = h.offset_is in omega (arith, e);
  some = h.some;
  reading = λ at index rest e.
      h.reading at index rest e ∙ ap (λ all. meant_in inners h.before (nodes_of all) (index ∷ rest)) (character-joins-behind h.scalars scalar nodes);
}

-- in the attribute element of a layer
pub reads-within : (inners : Inners) (reads : List ℕ → Option (List ℕ)) (offset : ℕ) (layer : Layer) (inside nodes : List ViewNode) (count : ℕ) (was : Option ℕ)
    → ReadsFrom inners reads offset (in_layer layer inside ∷ nodes) count was
    → Reads inners (λ place. reads (count ∷ place)) offset inside none_passed
reads-within inners reads offset layer inside nodes count None h = λ at index rest e.
    h count 0 (at ∷ rest) (omega arith) ∙ ap (λ n. meant_in inners offset (nodes_of inside) (n ∷ rest)) (omega (arith, e))
reads-within inners reads offset layer inside nodes count (Some len) h =
    let o : h.before + length h.scalars ≡ offset = ap (λ n. h.before + n) h.long ∙ sym h.offset_is in
    λ at index rest e.
    h.reading count 1 (at ∷ rest) (omega arith)
    ∙ ap (λ n. meant_in inners n (nodes_of inside) (at ∷ rest)) o
    ∙ ap (λ n. meant_in inners offset (nodes_of inside) (n ∷ rest)) (omega (arith, e))

reads-at : (inners : Inners) (reads : List ℕ → Option (List ℕ)) (offset more_items : ℕ) (nodes : List ViewNode) (passed : Passed) → more_items ≡ 0
    → Reads inners reads offset nodes passed → Reads inners reads (offset + more_items) nodes passed
reads-at inners reads offset more_items nodes passed e h = subst (λ o. Reads inners reads o nodes passed) (omega (arith, e)) h

reads-counted : (inners : Inners) (reads : List ℕ → Option (List ℕ)) (offset counts is : ℕ) (nodes : List ViewNode) (passed : Passed) → counts ≡ is
    → Reads inners reads (offset + counts) nodes passed → Reads inners reads (offset + is) nodes passed
reads-counted inners reads offset counts is nodes passed e h = subst (λ o. Reads inners reads (offset + o) nodes passed) e h

-- behind a content
pub reads-behind : (inners : Inners) (reads : List ℕ → Option (List ℕ)) (offset : ℕ) (content : Content) (nodes : List ViewNode) (passed : Passed)
    → may_stand content ≡ true
    → Reads inners reads offset (content_before content nodes) passed → Reads inners reads (offset + counted content) nodes (behind_content content passed)
reads-behind inners reads offset (leaf (text scalars)) nodes passed e h = cc
reads-behind inners reads offset (leaf (element head children)) nodes passed e h =
    reads-counted inners reads offset _ 0 nodes (node_more passed) (leaf-counts (element head children) e)
    (reads-node inners reads offset head children nodes passed.nodes passed.in_text h)
reads-behind inners reads offset (item (text scalars)) nodes passed e h = cc
reads-behind inners reads offset (item (element head children)) nodes passed e h =
    reads-counted inners reads offset _ 1 nodes (node_more passed) (item-counts (element head children) e)
    (reads-node inners reads offset head children nodes passed.nodes passed.in_text h)
reads-behind inners reads offset (character scalar) nodes passed e h = reads-character inners reads offset scalar nodes passed.nodes passed.in_text h
reads-behind inners reads offset caret nodes passed e h = reads-at inners reads offset 0 nodes passed refl h

-- whether nodes begin with a text
abbrev pub starts_text : List ViewNode → Bool
starts_text [] = false
starts_text (text scalars ∷ nodes) = true
starts_text (element head children ∷ nodes) = false

character-starts : (scalar : ℕ) (nodes : List ViewNode) → starts_text (character_before scalar nodes) ≡ true
character-starts scalar [] = refl
character-starts scalar (text scalars ∷ nodes) = refl
character-starts scalar (element head children ∷ nodes) = refl

mutual
  piece-starts : (piece : Piece) (pieces : Pieces) → (begins_with_text pieces ≡ true → starts_text (shown pieces) ≡ true)
      → begins_with_text (first piece pieces) ≡ true → starts_text (shown (first piece pieces)) ≡ true
  piece-starts (bare (leaf node)) pieces rest e = cc
  piece-starts (bare (item node)) pieces rest e = cc
  piece-starts (bare (character scalar)) pieces rest e = character-starts scalar (shown pieces)
  piece-starts (bare caret) pieces rest e = rest e
  piece-starts (wrapped layer inner) pieces rest e = cc

  -- pieces that begin with a character are nodes that begin with a text
  pub shown-starts : (pieces : Pieces) → begins_with_text pieces ≡ true → starts_text (shown pieces) ≡ true
  shown-starts nothing e = cc
  shown-starts (first piece pieces) e = piece-starts piece pieces (shown-starts pieces) e

-- a place in a text means the position there
in_text-there : (offset scalars index : ℕ) → index ≤ scalars → in_text offset scalars (index ∷ []) ≡ Some ((offset + index) ∷ [])
in_text-there offset scalars index h = ap (λ b. if b then Some ((offset + index) ∷ []) else None) (le-leb index scalars h)

first-place : (inners : Inners) (offset : ℕ) (nodes : List ViewNode) → meant_in inners offset (nodes_of nodes) (0 ∷ []) ≡ Some (offset ∷ [])
first-place inners offset [] = refl
first-place inners offset (node ∷ nodes) = refl

first-text : (inners : Inners) (offset : ℕ) (nodes : List ViewNode) → starts_text nodes ≡ true → meant_in inners offset (nodes_of nodes) (0 ∷ 0 ∷ [])
    ≡ Some (offset ∷ [])
first-text inners offset [] e = cc
first-text inners offset (text scalars ∷ nodes) e = in_text-there offset (length scalars) 0 (omega arith) ∙ ap (λ n. Some (n ∷ [])) (omega arith)
first-text inners offset (element head children ∷ nodes) e = cc

joined-text : (inners : Inners) (offset len : ℕ) (scalars : List ℕ) (nodes : List ViewNode) → length scalars ≡ len
    → meant_in inners offset (nodes_of (join_node (text scalars) nodes)) (0 ∷ len ∷ []) ≡ Some ((offset + len) ∷ [])
joined-text inners offset len scalars [] e = in_text-there offset (length scalars) len (omega (arith, e))
joined-text inners offset len scalars (text others ∷ nodes) e =
    let l : length (scalars ++ others) ≡ length scalars + length others = length-append scalars others in
    in_text-there offset (length (scalars ++ others)) len (omega (arith, e, l))
joined-text inners offset len scalars (element head children ∷ nodes) e = in_text-there offset (length scalars) len (omega (arith, e))

-- an entry that is no node is found at the place before which the items are that were passed
pub place-base : (inners : Inners) (reads : List ℕ → Option (List ℕ)) (offset : ℕ) (nodes : List ViewNode) (count : ℕ) (was : Option ℕ) (behind : Bool)
    → (behind ≡ true → starts_text nodes ≡ true) → ReadsFrom inners reads offset nodes count was
    → reads (as_place (record { nodes = count; in_text = was }) behind) ≡ Some (offset ∷ [])
place-base inners reads offset nodes count None true s h = h count 0 (0 ∷ []) (omega arith) ∙ first-text inners offset nodes (s refl)
place-base inners reads offset nodes count None false s h = h count 0 [] (omega arith) ∙ first-place inners offset nodes
place-base inners reads offset nodes count (Some len) behind s h =
    let some : 1 ≤ count = h.some in
    h.reading (count - 1) 0 (len ∷ []) (omega (arith, some))
    ∙ joined-text inners h.before len h.scalars nodes h.long
    ∙ ap (λ n. Some (n ∷ [])) (sym h.offset_is)

item-inside : (inners : Inners) (offset : ℕ) (kind : Kind) (around inside : Option (List ℕ)) → is_item_kind kind ≡ true → by_kind kind around inside ≡ inside
item-inside inners offset container around inside e = refl
item-inside inners offset (attribute priority id) around inside e = cc
item-inside inners offset empty around inside e = refl
item-inside inners offset ui around inside e = cc

-- a place in the node of an item is one in the item
pub node-base : (inners : Inners) (reads : List ℕ → Option (List ℕ)) (offset : ℕ) (node : ViewNode) (nodes : List ViewNode) (count : ℕ) (was : Option ℕ)
    (index : ℕ) (rest : List ℕ)
    → is_element is_item_kind node ≡ true → ReadsFrom inners reads offset (node ∷ nodes) count was
    → reads (count ∷ index ∷ rest) ≡ in_item inners offset (index ∷ rest)
node-base inners reads offset (text scalars) nodes count was index rest e h = cc
node-base inners reads offset (element head children) nodes count None index rest e h =
    h count 0 (index ∷ rest) (omega arith) ∙ item-inside inners offset head.kind _ _ e
node-base inners reads offset (element head children) nodes count (Some len) index rest e h =
    let o : h.before + length h.scalars ≡ offset = ap (λ n. h.before + n) h.long ∙ sym h.offset_is in
    h.reading count 1 (index ∷ rest) (omega arith)
    ∙ item-inside inners (h.before + length h.scalars) head.kind _ _ e
    ∙ ap (λ n. in_item inners n (index ∷ rest)) o

pub later : (n : ℕ) (here : List ℕ) (rest : ℕ → List ℕ) → (if suc n == 0 then here else rest (suc n - 1)) ≡ rest n
later n here rest = ap (λ b. if b then here else rest (suc n - 1)) (not_zero n) ∙ ap rest (omega arith)

-- the entry that is looked for, what it is found as, what the place goes on with, and what it should mean by the number of items before it
module _ (inners : Inners) (content : Content) (found : Found) (tail : List ℕ) (want : ℕ → Option (List ℕ))
    (base : (reads : List ℕ → Option (List ℕ)) (offset : ℕ) (nodes : List ViewNode) (passed : Passed) (behind : Bool)
    → (behind ≡ true → starts_text nodes ≡ true) → Reads inners reads offset (content_before content nodes) passed
    → reads (found passed behind ++ tail) ≡ want offset) where
  abbrev pub Claim : Pieces → Type 0
  Claim pieces =
      (number : ℕ) (passed : Passed) (offset : ℕ) (reads : List ℕ → Option (List ℕ)) → AllStand (contents pieces)
      → slice_get (contents pieces) number ≡ Some content → Reads inners reads offset (shown pieces) passed
      → reads (in_pieces found pieces number passed ++ tail) ≡ want (offset + items_in (take number (contents pieces)))

  bare-means : (next : Content) (pieces : Pieces) → Claim pieces → Claim (first (bare next) pieces)
  bare-means next pieces ih zero passed offset reads s e h =
      let same : next ≡ content = (let k : Some next ≡ Some content = e in cc) in
      base reads offset (shown pieces) passed (begins_with_text pieces) (shown-starts pieces)
      (subst (λ c. Reads inners reads offset (content_before c (shown pieces)) passed) same h)
      ∙ ap want (omega arith)
  bare-means next pieces ih (suc number) passed offset reads s e h =
      ap (λ place. reads (place ++ tail)) (later number (found passed (begins_with_text pieces)) (λ n. in_pieces found pieces n (behind_content next passed)))
      ∙ ih number (behind_content next passed) (offset + counted next) reads s.1 e (reads-behind inners reads offset next (shown pieces) passed s.0 h)
      ∙ ap want (omega arith)

  wrapped-means : (layer : Layer) (inner pieces : Pieces) → Claim inner → Claim pieces → Claim (first (wrapped layer inner) pieces)
  wrapped-means layer inner pieces within ih number passed offset reads s e h =
      let xs = contents inner in
      let ys = contents pieces in
      let size : pieces_size inner ≡ length (contents inner) = contents-size inner in
      elim (nat_lt number (pieces_size inner)) as (λ b. nat_lt number (pieces_size inner) ≡ b
      → reads ((if b then passed.nodes ∷ in_pieces found inner number none_passed
      else in_pieces found pieces (number - pieces_size inner) (node_more passed)) ++ tail)
      ≡ want (offset + items_in (take number (contents inner ++ contents pieces)))) [
        | true ↦ λ b.
            let below : number < length (contents inner) = (let k : number < pieces_size inner = is_below _ _ b in omega (arith, k, size)) in
            within number none_passed offset (λ place. reads (passed.nodes ∷ place)) (stand-front (contents inner) (contents pieces) s)
            (sym (get-front (contents inner) (contents pieces) number below) ∙ e)
            (reads-within inners reads offset layer (shown inner) (shown pieces) passed.nodes passed.in_text h)
            ∙ ap (λ cs. want (offset + items_in cs)) (sym (take-append-le number (contents inner) (contents pieces) (omega (arith, below))))
        | false ↦ λ b.
            let k : pieces_size inner ≤ number = not_below _ _ b in
            let place : number ≡ length (contents inner) + (number - pieces_size inner) = omega (arith, k, size) in
            let items : items_in (take number (contents inner ++ contents pieces))
            ≡ items_in (contents inner) + items_in (take (number - pieces_size inner) (contents pieces)) =
            (ap items_in (take-rest (contents inner) (contents pieces) (number - pieces_size inner) number place)
            ∙ items-append (contents inner) (take (number - pieces_size inner) (contents pieces))) in
            ih (number - pieces_size inner) (node_more passed) (offset + items_in (contents inner)) reads (stand-rest (contents inner) (contents pieces) s)
            (sym (get-rest (contents inner) (contents pieces) (number - pieces_size inner) number place) ∙ e)
            (reads-counted inners reads offset (inner_length (nodes_of (shown inner))) (items_in (contents inner)) (shown pieces) (node_more passed)
            (shown-counts inner (stand-front (contents inner) (contents pieces) s))
            (reads-node inners reads offset (layer_head layer) (nodes_of (shown inner)) (shown pieces) passed.nodes passed.in_text h))
            ∙ ap want (omega (arith, items))
      ] refl

  mutual
    piece-means : (piece : Piece) (pieces : Pieces) → Claim pieces → Claim (first piece pieces)
    piece-means (bare next) pieces ih = bare-means next pieces ih
    piece-means (wrapped layer inner) pieces ih = wrapped-means layer inner pieces (pieces-mean inner) ih

    pub pieces-mean : (pieces : Pieces) → Claim pieces
    pieces-mean nothing = λ number passed offset reads s e h. cc
    pieces-mean (first piece pieces) = piece-means piece pieces (pieces-mean pieces)

-- The place of an entry that is no node means the number of items before it, wherever the pieces are read,
place-means-in : (inners : Inners) (pieces : Pieces) (number : ℕ) (passed : Passed) (offset : ℕ) (reads : List ℕ → Option (List ℕ)) → AllStand (contents pieces)
    → slice_get (contents pieces) number ≡ Some caret → Reads inners reads offset (shown pieces) passed
    → reads (in_pieces as_place pieces number passed) ≡ Some ((offset + items_in (take number (contents pieces))) ∷ [])
place-means-in inners pieces number passed offset reads s e h =
    ap reads (sym (append-nil (in_pieces as_place pieces number passed)))
    ∙ pieces-mean inners caret as_place [] (λ n. Some (n ∷ []))
    (λ all at nodes before behind starts r. ap all (append-nil (as_place before behind))
    ∙ place-base inners all at nodes before.nodes before.in_text behind starts r)
    pieces number passed offset reads s e h

-- and what goes on in the node of an item is a place in the item
node-means-in : (inners : Inners) (node : ViewNode) (index : ℕ) (rest : List ℕ) (pieces : Pieces) (number : ℕ) (passed : Passed) (offset : ℕ)
    (reads : List ℕ → Option (List ℕ)) → AllStand (contents pieces)
    → is_element is_item_kind node ≡ true → slice_get (contents pieces) number ≡ Some (item node) → Reads inners reads offset (shown pieces) passed
    → reads (in_pieces as_node pieces number passed ++ (index ∷ rest)) ≡ in_item inners (offset + items_in (take number (contents pieces))) (index ∷ rest)
node-means-in inners node index rest pieces number passed offset reads s i e h =
    pieces-mean inners (item node) as_node (index ∷ rest) (λ n. in_item inners n (index ∷ rest))
    (λ all at nodes before behind starts r. node-base inners all at node nodes before.nodes before.in_text index rest i r)
    pieces number passed offset reads s e h

-- places in the nodes of a row are read from their beginning on
pub reads-all : (inners : Inners) (offset : ℕ) (nodes : List ViewNode) → Reads inners (meant_in inners offset (nodes_of nodes)) offset nodes none_passed
reads-all inners offset nodes = λ at index rest e. ap (λ n. meant_in inners offset (nodes_of nodes) (n ∷ rest)) (omega (arith, e))

-- in a row: the place of an entry that is no node
pub place-means : (inners : Inners) (row : List Entry) (number : ℕ) → AllStand (contents_of row) → slice_get (contents_of row) number ≡ Some caret
    → meant_in inners 0 (nodes_of (nest row)) (in_pieces as_place (pieces_of row) number none_passed) ≡ Some (items_in (take number (contents_of row)) ∷ [])
place-means inners row number s e =
    let same : contents (pieces_of row) ≡ contents_of row = contents-row row in
    place-means-in inners (pieces_of row) number none_passed 0 (meant_in inners 0 (nodes_of (nest row)))
    (subst AllStand (sym same) s) (ap (λ cs. slice_get cs number) same ∙ e) (reads-all inners 0 (nest row))
    ∙ ap (λ cs. Some ((0 + items_in (take number cs)) ∷ [])) same ∙ ap (λ n. Some (n ∷ [])) (omega arith)

-- and the node of an item
pub node-means : (inners : Inners) (node : ViewNode) (index : ℕ) (rest : List ℕ) (row : List Entry) (number : ℕ) → AllStand (contents_of row)
    → is_element is_item_kind node ≡ true → slice_get (contents_of row) number ≡ Some (item node)
    → meant_in inners 0 (nodes_of (nest row)) (in_pieces as_node (pieces_of row) number none_passed ++ (index ∷ rest))
    ≡ in_item inners (items_in (take number (contents_of row))) (index ∷ rest)
node-means inners node index rest row number s i e =
    let same : contents (pieces_of row) ≡ contents_of row = contents-row row in
    node-means-in inners node index rest (pieces_of row) number none_passed 0 (meant_in inners 0 (nodes_of (nest row)))
    (subst AllStand (sym same) s) i (ap (λ cs. slice_get cs number) same ∙ e) (reads-all inners 0 (nest row))
    ∙ ap (λ cs. in_item inners (0 + items_in (take number cs)) (index ∷ rest)) same ∙ ap (λ n. in_item inners n (index ∷ rest)) (omega arith)
