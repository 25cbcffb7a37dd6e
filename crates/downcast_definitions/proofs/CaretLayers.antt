-- The place of the caret is in the attribute elements of the caret's layers.
use Rattle.std.proofs.Common.{◌≡◌, ℕ, zero, suc, ◌+◌, ◌-◌, ◌<◌, ◌≤◌, List, [], ◌∷◌, ◌++◌, length, Bool, true, false, Option, Some, None, refl, sym, ap, ◌∙◌}
use Rattle.std.proofs.Common.{subst, append_assoc, length-append, arith}
use Rattle.std.proofs.lemmas.Bool.Decides.{nat_tests}
use Rattle.std.specs.Prelude.{slice_get, nat_lt, option_map, if◌then◌else◌}
use Rattle.item_definitions.specs.Item.{Item, items_of}
use Rattle.document_definitions.specs.Selection.{same_position}
use Rattle.view_definitions.specs.Node.{Head, ViewNode, ViewNodes, text, element, nodes_of}
use Rattle.view_definitions.specs.Layer.{Layer, same_layer, in_layer, layer_head}
use Rattle.view_definitions.specs.Row.{Content, leaf, item, character, caret, Entry, Piece, Pieces, nothing, first, bare, wrapped, put, pieces_of}
use Rattle.view_definitions.specs.Row.{character_before, content_before, shown, nest, join_node}
use Rattle.view_definitions.proofs.Layers.{same_layer-true}
use Rattle.downcast_definitions.specs.Scene.{Scene, Caret, leaves, ends_at, starts_at, has_caret, carets, caret_entry, boundary}
use Rattle.downcast_definitions.specs.Rows.{row_of}
use Rattle.downcast_definitions.specs.Place.{pieces_size, Passed, none_passed, character_more, behind_content, begins_with_text, as_place, in_pieces}
use Rattle.downcast_definitions.specs.Seen.{entries_before, layers_at, mark_at, place_of, boundary_place}
use Rattle.downcast_definitions.specs.Shown.{HaveShapes}
use Rattle.downcast_definitions.specs.Rule.{content_nodes, layers_to, caret_number}
use Rattle.downcast_definitions.proofs.Entries.{may_stand, AllStand, contents, contents_of, contents-size, contents-row, stand-front, stand-rest, get-front}
use Rattle.downcast_definitions.proofs.Entries.{get-rest}
use Rattle.downcast_definitions.proofs.Items.{around, row-stands}
use Rattle.downcast_definitions.proofs.Marked.{size-put, later_below, first_below}
use Rattle.downcast_definitions.proofs.Marks.{within_layer, behind_layer, put-cons}
use Rattle.downcast_definitions.proofs.Means.{character-joins, character-joins-behind, starts_text, shown-starts, later}
use Rattle.ck_base.proofs.Common.{is_below, not_below}

-- ---- the layers of an entry among pieces are its own

-- the layers around the entry of a number
abbrev pub pieces_layers : Pieces → ℕ → List Layer
pieces_layers nothing number = []
pieces_layers (first (bare content) pieces) zero = []
pieces_layers (first (bare content) pieces) (suc number) = pieces_layers pieces number
pieces_layers (first (wrapped layer inner) pieces) number =
    if nat_lt number (pieces_size inner) then layer ∷ pieces_layers inner number else pieces_layers pieces (number - pieces_size inner)

-- the entries in a layer, and those behind it
abbrev split_at : Layer → Pieces → ℕ → List Layer
split_at layer pieces number =
    if nat_lt number (pieces_size (within_layer layer pieces)) then layer ∷ pieces_layers (within_layer layer pieces) number
    else pieces_layers (behind_layer layer pieces) (number - pieces_size (within_layer layer pieces))

none-below : (number : ℕ) → nat_lt number 0 ≡ false
none-below number = grind (arith, nat_tests)

none-within : (layer : Layer) (here : List Layer) (pieces : Pieces) (number : ℕ) → (if nat_lt number 0 then here else pieces_layers pieces (number - 0))
    ≡ pieces_layers pieces number
none-within layer here pieces number =
    let same : number - 0 ≡ number = omega arith in
    ap (λ b. if b then here else pieces_layers pieces (number - 0)) (none-below number) ∙ ap (pieces_layers pieces) same

split-is : (layer : Layer) (pieces : Pieces) (number : ℕ) → split_at layer pieces number ≡ pieces_layers pieces number
split-is layer nothing number = none-within layer (layer ∷ []) nothing number
split-is layer (first (bare content) pieces) number = none-within layer (layer ∷ []) (first (bare content) pieces) number
split-is layer (first (wrapped other inner) pieces) number =
    elim (same_layer layer other) as (λ b. same_layer layer other ≡ b
    → (if nat_lt number (pieces_size (if b then inner else nothing)) then layer ∷ pieces_layers (if b then inner else nothing) number
    else pieces_layers (if b then pieces else first (wrapped other inner) pieces) (number - pieces_size (if b then inner else nothing)))
    ≡ pieces_layers (first (wrapped other inner) pieces) number) [
      | true ↦ λ e. ap (λ l. if nat_lt number (pieces_size inner) then l ∷ pieces_layers inner number
          else pieces_layers pieces (number - pieces_size inner)) (same_layer-true layer other e)
      | false ↦ λ e. none-within layer (layer ∷ []) (first (wrapped other inner) pieces) number
    ] refl

put-first : (layers : List Layer) (content : Content) (pieces : Pieces) → pieces_layers (put layers content pieces) 0 ≡ layers
put-first [] content pieces = refl
put-first (layer ∷ layers) content pieces =
    let inner = put layers content (within_layer layer pieces) in
    ap (λ p. pieces_layers p 0) (put-cons layer layers content pieces)
    ∙ ap (λ b. if b then layer ∷ pieces_layers inner 0 else pieces_layers (behind_layer layer pieces) (0 - pieces_size inner))
    (ap (nat_lt 0) (size-put layers content (within_layer layer pieces)) ∙ first_below (pieces_size (within_layer layer pieces)))
    ∙ ap (λ ls. layer ∷ ls) (put-first layers content (within_layer layer pieces))

put-later : (layers : List Layer) (content : Content) (pieces : Pieces) (number : ℕ) → pieces_layers (put layers content pieces) (suc number)
    ≡ pieces_layers pieces number
put-later [] content pieces number = refl
put-later (layer ∷ layers) content pieces number =
    let inside = within_layer layer pieces in
    let less : suc number - suc (pieces_size (within_layer layer pieces)) ≡ number - pieces_size (within_layer layer pieces) = omega arith in
    ap (λ p. pieces_layers p (suc number)) (put-cons layer layers content pieces)
    ∙ ap (λ size. if nat_lt (suc number) size then layer ∷ pieces_layers (put layers content inside) (suc number)
    else pieces_layers (behind_layer layer pieces) (suc number - size)) (size-put layers content inside)
    ∙ (λ i. if later_below number (pieces_size inside) i then layer ∷ put-later layers content inside number i
    else pieces_layers (behind_layer layer pieces) (less i))
    ∙ split-is layer pieces number

row-layers : (row : List Entry) (number : ℕ) → pieces_layers (pieces_of row) number ≡ layers_at row number
row-layers [] number = refl
row-layers (entry ∷ row) zero = put-first entry.layers entry.content (pieces_of row)
row-layers (entry ∷ row) (suc number) = put-later entry.layers entry.content (pieces_of row) number ∙ row-layers row number

-- ---- the way to a mark leads through its layers

-- how places behind a text are read, and places behind nodes, what was passed on the way there in front
record InText (reads : List ℕ → Option (List Layer)) (within : List Layer → List Layer) (nodes : List ViewNode) (count : ℕ) : Type 0 where
  pub scalars : List ℕ
  pub some : 1 ≤ count
  pub reading : (at index : ℕ) (rest : List ℕ) → suc at ≡ count + index
      → reads (at ∷ rest) ≡ option_map within (layers_to (nodes_of (join_node (text scalars) nodes)) (index ∷ rest))

abbrev ReadsFrom : (List ℕ → Option (List Layer)) → (List Layer → List Layer) → List ViewNode → ℕ → Option ℕ → Type 0
ReadsFrom reads within nodes count None = (at index : ℕ) (rest : List ℕ) → at ≡ count + index
    → reads (at ∷ rest) ≡ option_map within (layers_to (nodes_of nodes) (index ∷ rest))
ReadsFrom reads within nodes count (Some len) = InText reads within nodes count

abbrev Reads : (List ℕ → Option (List Layer)) → (List Layer → List Layer) → List ViewNode → Passed → Type 0
Reads reads within nodes passed = ReadsFrom reads within nodes passed.nodes passed.in_text

reads-node : (reads : List ℕ → Option (List Layer)) (within : List Layer → List Layer) (head : Head) (children : ViewNodes) (nodes : List ViewNode)
    (count : ℕ) (was : Option ℕ)
    → ReadsFrom reads within (element head children ∷ nodes) count was → ReadsFrom reads within nodes (count + 1) None
reads-node reads within head children nodes count None h = λ at index rest e. h at (suc index) rest (omega (arith, e))
reads-node reads within head children nodes count (Some len) h = λ at index rest k. h.reading at (suc (suc index)) rest (omega (arith, k))

reads-character : (reads : List ℕ → Option (List Layer)) (within : List Layer → List Layer) (scalar : ℕ) (nodes : List ViewNode) (count : ℕ) (was : Option ℕ)
    → ReadsFrom reads within (character_before scalar nodes) count was → Reads reads within nodes (character_more count was)
reads-character reads within scalar nodes count None h = record {
  scalars = scalar ∷ [];
  some = omega arith;
  reading = λ at index rest e. h at index rest (omega (arith, e))
      ∙ ap (λ all. option_map within (layers_to (nodes_of all) (index ∷ rest))) (character-joins scalar nodes);
}
reads-character reads within scalar nodes count (Some len) h = record {
  scalars = h.scalars ++ scalar ∷ [];
  some = h.some;
  reading = λ at index rest e.
      h.reading at index rest e ∙ ap (λ all. option_map within (layers_to (nodes_of all) (index ∷ rest))) (character-joins-behind h.scalars scalar nodes);
}

map-twice : (within : List Layer → List Layer) (layer : Layer) (o : Option (List Layer)) → option_map within (option_map (λ layers. layer ∷ layers) o)
    ≡ option_map (λ layers. within (layer ∷ layers)) o
map-twice within layer None = refl
map-twice within layer (Some layers) = refl

reads-within : (reads : List ℕ → Option (List Layer)) (within : List Layer → List Layer) (layer : Layer) (inside nodes : List ViewNode) (count : ℕ)
    (was : Option ℕ)
    → ReadsFrom reads within (in_layer layer inside ∷ nodes) count was
    → Reads (λ place. reads (count ∷ place)) (λ layers. within (layer ∷ layers)) inside none_passed
reads-within reads within layer inside nodes count None h = λ at index rest e.
    h count 0 (at ∷ rest) (omega arith) ∙ map-twice within layer (layers_to (nodes_of inside) (at ∷ rest))
    ∙ ap (λ n. option_map (λ layers. within (layer ∷ layers)) (layers_to (nodes_of inside) (n ∷ rest))) (omega (arith, e))
reads-within reads within layer inside nodes count (Some len) h = λ at index rest e.
    h.reading count 1 (at ∷ rest) (omega arith) ∙ map-twice within layer (layers_to (nodes_of inside) (at ∷ rest))
    ∙ ap (λ n. option_map (λ layers. within (layer ∷ layers)) (layers_to (nodes_of inside) (n ∷ rest))) (omega (arith, e))

reads-behind : (reads : List ℕ → Option (List Layer)) (within : List Layer → List Layer) (content : Content) (nodes : List ViewNode) (passed : Passed)
    → may_stand content ≡ true
    → Reads reads within (content_before content nodes) passed → Reads reads within nodes (behind_content content passed)
reads-behind reads within (leaf (text scalars)) nodes passed e h = cc
reads-behind reads within (leaf (element head children)) nodes passed e h = reads-node reads within head children nodes passed.nodes passed.in_text h
reads-behind reads within (item (text scalars)) nodes passed e h = cc
reads-behind reads within (item (element head children)) nodes passed e h = reads-node reads within head children nodes passed.nodes passed.in_text h
reads-behind reads within (character scalar) nodes passed e h = reads-character reads within scalar nodes passed.nodes passed.in_text h
reads-behind reads within caret nodes passed e h = h

first-layers : (nodes : List ViewNode) → layers_to (nodes_of nodes) (0 ∷ []) ≡ Some []
first-layers [] = refl
first-layers (node ∷ nodes) = refl

start-layers : (nodes : List ViewNode) → starts_text nodes ≡ true → layers_to (nodes_of nodes) (0 ∷ 0 ∷ []) ≡ Some []
start-layers [] e = cc
start-layers (text scalars ∷ nodes) e = refl
start-layers (element head children ∷ nodes) e = cc

joined-layers : (scalars : List ℕ) (nodes : List ViewNode) (len : ℕ) → layers_to (nodes_of (join_node (text scalars) nodes)) (0 ∷ len ∷ []) ≡ Some []
joined-layers scalars [] len = refl
joined-layers scalars (text others ∷ nodes) len = refl
joined-layers scalars (element head children ∷ nodes) len = refl

place-layers : (reads : List ℕ → Option (List Layer)) (within : List Layer → List Layer) (nodes : List ViewNode) (count : ℕ) (was : Option ℕ)
    (behind : Bool) → (behind ≡ true → starts_text nodes ≡ true)
    → ReadsFrom reads within nodes count was → reads (as_place (record { nodes = count; in_text = was }) behind) ≡ Some (within [])
place-layers reads within nodes count None true s h = h count 0 (0 ∷ []) (omega arith) ∙ ap (option_map within) (start-layers nodes (s refl))
place-layers reads within nodes count None false s h = h count 0 [] (omega arith) ∙ ap (option_map within) (first-layers nodes)
place-layers reads within nodes count (Some len) behind s h =
    let some : 1 ≤ count = h.some in
    h.reading (count - 1) 0 (len ∷ []) (omega (arith, some)) ∙ ap (option_map within) (joined-layers h.scalars nodes len)

abbrev Claim : Pieces → Type 0
Claim pieces =
    (number count : ℕ) (was : Option ℕ) (reads : List ℕ → Option (List Layer)) (within : List Layer → List Layer) → AllStand (contents pieces)
    → slice_get (contents pieces) number ≡ Some caret
    → ReadsFrom reads within (shown pieces) count was → reads (in_pieces as_place pieces number (record { nodes = count; in_text = was }))
    ≡ Some (within (pieces_layers pieces number))

bare-layers : (next : Content) (pieces : Pieces) → Claim pieces → Claim (first (bare next) pieces)
bare-layers next pieces ih zero count was reads within s e h =
    let same : next ≡ caret = (let k : Some next ≡ Some caret = e in cc) in
    place-layers reads within (shown pieces) count was (begins_with_text pieces) (shown-starts pieces)
    (subst (λ c. ReadsFrom reads within (content_before c (shown pieces)) count was) same h)
bare-layers next pieces ih (suc number) count was reads within s e h =
    let passed : Passed = behind_content next (record { nodes = count; in_text = was }) in
    ap reads (later number (as_place (record { nodes = count; in_text = was }) (begins_with_text pieces))
    (λ n. in_pieces as_place pieces n (behind_content next (record { nodes = count; in_text = was }))))
    ∙ ih number passed.nodes passed.in_text reads within s.1 e (reads-behind reads within next (shown pieces) (record { nodes = count; in_text = was }) s.0 h)

wrapped-layers : (layer : Layer) (inner pieces : Pieces) → Claim inner → Claim pieces → Claim (first (wrapped layer inner) pieces)
wrapped-layers layer inner pieces inside ih number count was reads within s e h =
    let size : pieces_size inner ≡ length (contents inner) = contents-size inner in
    elim (nat_lt number (pieces_size inner)) as (λ b. nat_lt number (pieces_size inner) ≡ b
    → reads (if b then count ∷ in_pieces as_place inner number none_passed
    else in_pieces as_place pieces (number - pieces_size inner) (record { nodes = count + 1; in_text = None }))
    ≡ Some (within (if b then layer ∷ pieces_layers inner number else pieces_layers pieces (number - pieces_size inner)))) [
      | true ↦ λ b.
          let below : number < length (contents inner) = (let k : number < pieces_size inner = is_below _ _ b in omega (arith, k, size)) in
          inside number 0 None (λ place. reads (count ∷ place)) (λ layers. within (layer ∷ layers)) (stand-front (contents inner) (contents pieces) s)
          (sym (get-front (contents inner) (contents pieces) number below) ∙ e)
          (reads-within reads within layer (shown inner) (shown pieces) count was h)
      | false ↦ λ b.
          let k : pieces_size inner ≤ number = not_below _ _ b in
          let place : number ≡ length (contents inner) + (number - pieces_size inner) = omega (arith, k, size) in
          ih (number - pieces_size inner) (count + 1) None reads within (stand-rest (contents inner) (contents pieces) s)
          (sym (get-rest (contents inner) (contents pieces) (number - pieces_size inner) number place) ∙ e)
          (reads-node reads within (layer_head layer) (nodes_of (shown inner)) (shown pieces) count was h)
    ] refl

mutual
  piece-layers : (piece : Piece) (pieces : Pieces) → Claim pieces → Claim (first piece pieces)
  piece-layers (bare next) pieces ih = bare-layers next pieces ih
  piece-layers (wrapped layer inner) pieces ih = wrapped-layers layer inner pieces (pieces-layers inner) ih

  pieces-layers : (pieces : Pieces) → Claim pieces
  pieces-layers nothing = λ number count was reads within s e h. cc
  pieces-layers (first piece pieces) = piece-layers piece pieces (pieces-layers pieces)

map-itself : (o : Option (List Layer)) → o ≡ option_map (λ layers. layers) o
map-itself None = refl
map-itself (Some layers) = refl

-- the way to a caret in a row leads through the attribute elements of its layers
caret-way : (row : List Entry) (number : ℕ) → AllStand (contents_of row) → slice_get (contents_of row) number ≡ Some caret
    → layers_to (nodes_of (nest row)) (in_pieces as_place (pieces_of row) number none_passed) ≡ Some (layers_at row number)
caret-way row number s e =
    pieces-layers (pieces_of row) number 0 None (layers_to (nodes_of (nest row))) (λ layers. layers)
    (subst AllStand (sym (contents-row row)) s) (ap (λ cs. slice_get cs number) (contents-row row) ∙ e)
    (λ at index rest k. ap (λ n. layers_to (nodes_of (nest row)) (n ∷ rest)) (omega (arith, k)) ∙ map-itself (layers_to (nodes_of (nest row)) (index ∷ rest)))
    ∙ ap Some (row-layers row number)

-- ---- in the row of a parent

boundary-last : (scene : Scene) (position : List ℕ) (here : Caret) (there : Option Caret) → there ≡ Some here → same_position here.at position ≡ true
    → leaves scene (ends_at position) ++ (leaves scene (starts_at position) ++ carets there position)
    ≡ (leaves scene (ends_at position) ++ leaves scene (starts_at position)) ++ caret_entry here ∷ []
boundary-last scene position here there e at =
    ap (λ c. leaves scene (ends_at position) ++ (leaves scene (starts_at position) ++ carets c position)) e
    ∙ ap (λ b. leaves scene (ends_at position) ++ (leaves scene (starts_at position) ++ (if b then caret_entry here ∷ [] else []))) at
    ∙ sym (append_assoc (leaves scene (ends_at position)) (leaves scene (starts_at position)) (caret_entry here ∷ []))

caret-entry : (scene : Scene) (parent path : List ℕ) (list : List Item) (offset : ℕ) (here : Caret) → offset ≤ length list → scene.caret ≡ Some here
    → same_position here.at (path ++ offset ∷ []) ≡ true
    → slice_get (row_of scene parent path list) (caret_number scene path offset) ≡ Some (caret_entry here)
caret-entry scene parent path list offset here h e at =
    let a = around scene parent path list 0 0 offset offset (omega arith) h in
    let position = path ++ offset ∷ [] in
    let front = leaves scene (ends_at position) ++ leaves scene (starts_at position) in
    let last : boundary scene (path ++ offset ∷ []) ≡ front ++ caret_entry here ∷ [] = boundary-last scene position here scene.caret e at in
    let start : entries_before scene path offset ≡ 0 + length a.front = a.entries_are in
    let long : length (boundary scene (path ++ offset ∷ [])) ≡ length front + 1 = ap length last ∙ length-append front (caret_entry here ∷ []) in
    let place : caret_number scene path offset ≡ length a.front + length front = omega (arith, start, long) in
    ap (λ row. slice_get row (caret_number scene path offset)) (a.row_is ∙ ap (λ b. a.front ++ (b ++ a.behind)) last
    ∙ ap (λ r. a.front ++ r) (append_assoc front (caret_entry here ∷ []) a.behind))
    ∙ get-rest a.front (front ++ (caret_entry here ∷ a.behind)) (length front) (caret_number scene path offset) place
    ∙ get-rest front (caret_entry here ∷ a.behind) 0 (length front) (omega arith)

content-at : (row : List Entry) (number : ℕ) (entry : Entry) → slice_get row number ≡ Some entry → slice_get (contents_of row) number ≡ Some entry.content
content-at [] number entry e = cc
content-at (first_entry ∷ row) zero entry e = let same : first_entry ≡ entry = cc in ap (λ (own : Entry). Some own.content) same
content-at (first_entry ∷ row) (suc number) entry e = content-at row number entry e

layers-is : (row : List Entry) (number : ℕ) (entry : Entry) → slice_get row number ≡ Some entry → layers_at row number ≡ entry.layers
layers-is [] number entry e = cc
layers-is (first_entry ∷ row) zero entry e = let same : first_entry ≡ entry = cc in ap (λ (own : Entry). own.layers) same
layers-is (first_entry ∷ row) (suc number) entry e = layers-is row number entry e

-- the caret's position is seen in the attribute elements of the caret's layers
pub caret-layers : (scene : Scene) (parent path : List ℕ) (list : List Item) (offset : ℕ) (here : Caret)
    → HaveShapes scene.conversion parent 0 (items_of list) → offset ≤ length list
    → scene.caret ≡ Some here → same_position here.at (path ++ offset ∷ []) ≡ true
    → layers_to (nodes_of (content_nodes scene parent path list)) (boundary_place scene parent path list offset) ≡ Some here.layers
caret-layers scene parent path list offset here s h e at =
    let row = row_of scene parent path list in
    let start = entries_before scene path offset in
    let end = entries_before scene path offset + length (boundary scene (path ++ offset ∷ [])) in
    let there = caret-entry scene parent path list offset here h e at in
    ap (λ b. layers_to (nodes_of (nest row)) (place_of as_place (mark_at row start end b))) (ap (λ c. has_caret c (path ++ offset ∷ [])) e ∙ at)
    ∙ caret-way row (caret_number scene path offset) (row-stands scene parent path 0 0 (items_of list) s)
    (content-at row (caret_number scene path offset) (caret_entry here) there)
    ∙ ap Some (layers-is row (caret_number scene path offset) (caret_entry here) there)
