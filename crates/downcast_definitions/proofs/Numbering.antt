-- The numbers of view elements are no content, and no place depends on them.
use Rattle.std.proofs.Common.{◌≡◌, ℕ, ◌+◌, ◌-◌, zero, suc, nat_lt, ◌==◌, List, [], ◌∷◌, ◌++◌, map, length, Bool, true, false, if◌then◌else◌, Option, Some, None}
use Rattle.std.proofs.Common.{refl, sym, ap, ◌∙◌}
use Rattle.std.proofs.lemmas.List.{map-append}
use Rattle.std.specs.Prelude.{slice_get, option_map, codes}
use Rattle.std.specs.List.{filter_map, cons_option}
use Rattle.item_definitions.specs.Item.{Item, Items, items_of, list_of}
use Rattle.item_definitions.specs.Item as items
use Rattle.item_definitions.specs.Position.{Range}
use Rattle.document_definitions.specs.Document.{Document}
use Rattle.document_definitions.specs.Markers.{Markers}
use Rattle.document_definitions.specs.Selection.{same_position}
use Rattle.view_definitions.specs.Node.{ViewAttributes, ViewNode, text, element, more, nodes_of, plain_node, plain_nodes, content}
use Rattle.view_definitions.specs.Layer.{Layer, same_layer, layer_head}
use Rattle.view_definitions.specs.Row.{Content, leaf, item, character, caret, Entry, Piece, Pieces, nothing, first, bare, wrapped, put, pieces_of}
use Rattle.view_definitions.specs.Row.{character_before, content_before, piece_before, shown, nest}
use Rattle.converter_definitions.specs.declared.stock.Leaf.{Leaf}
use Rattle.converter_definitions.specs.Form.{Form, Forms}
use Rattle.converter_definitions.specs.Form as forms
use Rattle.converter_definitions.specs.Views.{head_of, filled, filled_inner}
use Rattle.converter_definitions.specs.Gives.{Conversion, Converter, Converted}
use Rattle.converter_definitions.specs.Layers.{leaf_of}
use Rattle.downcast_definitions.specs.Scene.{Numbers, unnumbered, Scene, Caret, leaf_entry, leaves, ends_at, starts_at, has_caret, caret_entry, carets}
use Rattle.downcast_definitions.specs.Scene.{boundary, caret_of, numbered_scene}
use Rattle.downcast_definitions.specs.Rows.{elements_in, shape_at, only, with_number, element_node, entry_of, inner_row, row_of, numbered_downcast, downcast}
use Rattle.downcast_definitions.specs.Place.{pieces_size, Passed, none_passed, node_more, behind_content, begins_with_text, Found, in_pieces, as_place}
use Rattle.downcast_definitions.specs.Seen as seen
use Rattle.downcast_definitions.specs.Seen.{entries_before, of_character, character_layers_at, common, layers_at, layers_before, Marked, marked, between}
use Rattle.downcast_definitions.specs.Seen.{mark_at, place_of, boundary_place, in_children, place_in}

-- ---- rows without numbers

abbrev pub plain_content : Content → Content
plain_content (leaf node) = leaf (plain_node node)
plain_content (item node) = item (plain_node node)
plain_content (character scalar) = character scalar
plain_content caret = caret

-- the same entry without the numbers and counts in it
abbrev pub plain_entry : Entry → Entry
plain_entry entry = record { content = plain_content entry.content; layers = entry.layers }

abbrev mutual
  plain_piece : Piece → Piece
  plain_piece (bare content) = bare (plain_content content)
  plain_piece (wrapped layer inner) = wrapped layer (plain_pieces inner)

  plain_pieces : Pieces → Pieces
  plain_pieces nothing = nothing
  plain_pieces (first piece pieces) = first (plain_piece piece) (plain_pieces pieces)

put-plain : (layers : List Layer) (content : Content) (pieces : Pieces) → plain_pieces (put layers content pieces)
    ≡ put layers (plain_content content) (plain_pieces pieces)
put-plain [] content pieces = refl
put-plain (layer ∷ layers) content nothing = ap (λ made. first (wrapped layer made) nothing) (put-plain layers content nothing)
put-plain (layer ∷ layers) content (first (bare next) pieces) =
    ap (λ made. first (wrapped layer made) (first (bare (plain_content next)) (plain_pieces pieces))) (put-plain layers content nothing)
put-plain (layer ∷ layers) content (first (wrapped other inner) pieces) =
    elim (same_layer layer other) as (λ b. plain_pieces (if b then first (wrapped layer (put layers content inner)) pieces
    else first (wrapped layer (put layers content nothing)) (first (wrapped other inner) pieces))
    ≡ (if b then first (wrapped layer (put layers (plain_content content) (plain_pieces inner))) (plain_pieces pieces)
    else first (wrapped layer (put layers (plain_content content) nothing)) (first (wrapped other (plain_pieces inner)) (plain_pieces pieces)))) [
      | true ↦ ap (λ made. first (wrapped layer made) (plain_pieces pieces)) (put-plain layers content inner)
      | false ↦ ap (λ made. first (wrapped layer made) (first (wrapped other (plain_pieces inner)) (plain_pieces pieces))) (put-plain layers content nothing)
    ]

row-plain : (row : List Entry) → plain_pieces (pieces_of row) ≡ pieces_of (map plain_entry row)
row-plain [] = refl
row-plain (entry ∷ row) = put-plain entry.layers entry.content (pieces_of row) ∙ ap (put entry.layers (plain_content entry.content)) (row-plain row)

character-plain : (scalar : ℕ) (nodes : List ViewNode) → map plain_node (character_before scalar nodes) ≡ character_before scalar (map plain_node nodes)
character-plain scalar [] = refl
character-plain scalar (text scalars ∷ nodes) = refl
character-plain scalar (element head children ∷ nodes) = refl

content-plain : (next : Content) (nodes : List ViewNode) → map plain_node (content_before next nodes)
    ≡ content_before (plain_content next) (map plain_node nodes)
content-plain (leaf node) nodes = refl
content-plain (item node) nodes = refl
content-plain (character scalar) nodes = character-plain scalar nodes
content-plain caret nodes = refl

pub nodes-plain : (nodes : List ViewNode) → plain_nodes (nodes_of nodes) ≡ nodes_of (map plain_node nodes)
nodes-plain [] = refl
nodes-plain (node ∷ nodes) = ap (λ rest. more (plain_node node) rest) (nodes-plain nodes)

mutual
  piece-shown : (piece : Piece) (nodes : List ViewNode) → map plain_node (piece_before piece nodes) ≡ piece_before (plain_piece piece) (map plain_node nodes)
  piece-shown (bare next) nodes = content-plain next nodes
  piece-shown (wrapped layer inner) nodes =
      ap (λ inside. element (layer_head layer) inside ∷ map plain_node nodes) (nodes-plain (shown inner) ∙ ap nodes_of (pieces-shown inner))

  pieces-shown : (pieces : Pieces) → map plain_node (shown pieces) ≡ shown (plain_pieces pieces)
  pieces-shown nothing = refl
  pieces-shown (first piece pieces) = piece-shown piece (shown pieces) ∙ ap (piece_before (plain_piece piece)) (pieces-shown pieces)

-- the content of the nodes of a row
pub nest-plain : (row : List Entry) → content (nest row) ≡ nest (map plain_entry row)
nest-plain row = pieces-shown (pieces_of row) ∙ ap shown (row-plain row)

-- ---- shapes

mutual
  form-plain : (nodes : List ViewNode) (form : Form ViewAttributes) → map plain_node (filled nodes form) ≡ filled (map plain_node nodes) form
  form-plain nodes forms.slot = refl
  form-plain nodes (forms.text scalars) = refl
  form-plain nodes (forms.element kind name attributes children) =
      ap (λ inside. element (head_of kind name attributes) inside ∷ []) (nodes-plain (filled_inner nodes children) ∙ ap nodes_of (forms-plain nodes children))

  forms-plain : (nodes : List ViewNode) (list : Forms ViewAttributes) → map plain_node (filled_inner nodes list) ≡ filled_inner (map plain_node nodes) list
  forms-plain nodes forms.none = refl
  forms-plain nodes (forms.more form rest) =
      map-append plain_node (filled nodes form) (filled_inner nodes rest) ∙ (λ i. form-plain nodes form i ++ forms-plain nodes rest i)

only-plain : (nodes : List ViewNode) → plain_node (only nodes) ≡ only (map plain_node nodes)
only-plain [] = refl
only-plain (node ∷ nodes) = refl

number-plain : (number : Option ℕ) (node : ViewNode) → plain_node (with_number number node) ≡ with_number None (plain_node node)
number-plain number (text scalars) = refl
number-plain number (element head children) = refl

node-plain : (number : Option ℕ) (made : Converted) (row other : List Entry) → map plain_entry row ≡ other → plain_node (element_node number made row)
    ≡ element_node None made other
node-plain number made row other e =
    number-plain number (only (filled (nest row) made.form))
    ∙ ap (with_number None) (only-plain (filled (nest row) made.form) ∙ ap only (form-plain (nest row) made.form))
    ∙ ap (λ nodes. with_number None (only (filled nodes made.form))) (nest-plain row ∙ ap nest e)

-- ---- rows of a scene

module _ (conversion : Conversion) (markers : Markers) (there : Option Caret) where
  -- the scene with these numbers
  abbrev pub numbered : Numbers → Scene
  numbered numbers = record { conversion = conversion; markers = markers; caret = there; numbers = numbers }

  leaf-plain : (test : Bool) (view : Option Leaf) (row other : List Entry) → map plain_entry row ≡ other
      → map plain_entry (cons_option (if test then option_map leaf_entry view else None) row)
      ≡ cons_option (if test then option_map leaf_entry view else None) other
  leaf-plain true None row other e = e
  leaf-plain true (Some view) row other e = ap (λ rest. leaf_entry view ∷ rest) e
  leaf-plain false view row other e = e

  leaves-plain : (converters : List Converter) (test : Range → Bool) (all : Markers)
      → map plain_entry (filter_map (λ marker. if test marker.1 then option_map leaf_entry (leaf_of converters marker.0) else None) all)
      ≡ filter_map (λ marker. if test marker.1 then option_map leaf_entry (leaf_of converters marker.0) else None) all
  leaves-plain converters test [] = refl
  leaves-plain converters test (marker ∷ all) = leaf-plain (test marker.1) (leaf_of converters marker.0) _ _ (leaves-plain converters test all)

  carets-plain : (here : Option Caret) (position : List ℕ) → map plain_entry (carets here position) ≡ carets here position
  carets-plain None position = refl
  carets-plain (Some here) position =
      elim (same_position here.at position) as (λ b. map plain_entry (if b then caret_entry here ∷ [] else [])
      ≡ (if b then caret_entry here ∷ [] else [])) [ true ↦ refl | false ↦ refl ]

  boundary-plain : (numbers : Numbers) (position : List ℕ) → map plain_entry (boundary (numbered numbers) position) ≡ boundary (numbered unnumbered) position
  boundary-plain numbers position =
      map-append plain_entry (leaves (numbered numbers) (ends_at position)) (leaves (numbered numbers) (starts_at position) ++ carets there position)
      ∙ (λ i. leaves-plain conversion.converters (ends_at position) markers i
      ++ (map-append plain_entry (leaves (numbered numbers) (starts_at position)) (carets there position)
      ∙ (λ j. leaves-plain conversion.converters (starts_at position) markers j ++ carets-plain there position j)) i)

  mutual
    entry-plain : (numbers : Numbers) (parent path : List ℕ) (before : ℕ) (of : Item) → plain_entry (entry_of (numbered numbers) parent path before of)
        ≡ entry_of (numbered unnumbered) parent path before of
    entry-plain numbers parent path before (items.character scalar attributes) = refl
    entry-plain numbers parent path before (items.element id name attributes children) =
        ap (λ node. record {
          content = item node;
          layers =
              (entry_of (numbered unnumbered) parent path before (items.element id name attributes children)).layers;
        })
        (node-plain (numbers id) (shape_at conversion parent before name attributes) (inner_row (numbered numbers) name path 0 0 children)
        (inner_row (numbered unnumbered) name path 0 0 children)
        (inner-plain numbers name path 0 0 children))

    pub inner-plain : (numbers : Numbers) (parent path : List ℕ) (offset before : ℕ) (list : Items)
        → map plain_entry (inner_row (numbered numbers) parent path offset before list) ≡ inner_row (numbered unnumbered) parent path offset before list
    inner-plain numbers parent path offset before items.none = boundary-plain numbers (path ++ offset ∷ [])
    inner-plain numbers parent path offset before (items.more of rest) =
        map-append plain_entry (boundary (numbered numbers) (path ++ offset ∷ [])) (entry_of (numbered numbers) parent (path ++ offset ∷ []) before of
        ∷ inner_row (numbered numbers) parent path (offset + 1) (before + elements_in of) rest)
        ∙ (λ i. boundary-plain numbers (path ++ offset ∷ []) i
        ++ (entry-plain numbers parent (path ++ offset ∷ []) before of i ∷ inner-plain numbers parent path (offset + 1) (before + elements_in of) rest i))

-- the content of a document's view whose elements are numbered is the view without numbers
pub numbers-dropped : (numbers : Numbers) (conversion : Conversion) (document : Document) → content (numbered_downcast numbers conversion document)
    ≡ downcast conversion document
numbers-dropped numbers conversion document =
    nest-plain (row_of (numbered_scene numbers conversion document) (codes "$root") [] document.items)
    ∙ ap nest (inner-plain conversion document.markers (caret_of conversion document) numbers (codes "$root") [] 0 0 (items_of document.items))

-- ---- places

size-plain : (pieces : Pieces) → pieces_size (plain_pieces pieces) ≡ pieces_size pieces
size-plain nothing = refl
size-plain (first (bare next) pieces) = ap (λ n. 1 + n) (size-plain pieces)
size-plain (first (wrapped layer inner) pieces) = λ i. size-plain inner i + size-plain pieces i

text-plain : (pieces : Pieces) → begins_with_text (plain_pieces pieces) ≡ begins_with_text pieces
text-plain nothing = refl
text-plain (first (bare (leaf node)) pieces) = refl
text-plain (first (bare (item node)) pieces) = refl
text-plain (first (bare (character scalar)) pieces) = refl
text-plain (first (bare caret) pieces) = text-plain pieces
text-plain (first (wrapped layer inner) pieces) = refl

behind-plain : (next : Content) (passed : Passed) → behind_content (plain_content next) passed ≡ behind_content next passed
behind-plain (leaf node) passed = refl
behind-plain (item node) passed = refl
behind-plain (character scalar) passed = refl
behind-plain caret passed = refl

-- an entry is found where it is found without numbers
found-plain : (found : Found) (pieces : Pieces) (number : ℕ) (passed : Passed) → in_pieces found (plain_pieces pieces) number passed
    ≡ in_pieces found pieces number passed
found-plain found nothing number passed = refl
found-plain found (first (bare next) pieces) number passed =
    (λ i. if number == 0 then found passed (text-plain pieces i) else in_pieces found (plain_pieces pieces) (number - 1) (behind-plain next passed i))
    ∙ ap (λ place. if number == 0 then found passed (begins_with_text pieces) else place) (found-plain found pieces (number - 1) (behind_content next passed))
found-plain found (first (wrapped layer inner) pieces) number passed =
    (λ i. if nat_lt number (size-plain inner i) then passed.nodes ∷ found-plain found inner number none_passed i
    else in_pieces found (plain_pieces pieces) (number - size-plain inner i) (node_more passed))
    ∙ ap (λ place. if nat_lt number (pieces_size inner) then passed.nodes ∷ in_pieces found inner number none_passed else place)
    (found-plain found pieces (number - pieces_size inner) (node_more passed))

character-layers : (next : Content) (layers : List Layer) → of_character (plain_content next) layers ≡ of_character next layers
character-layers (leaf node) layers = refl
character-layers (item node) layers = refl
character-layers (character scalar) layers = refl
character-layers caret layers = refl

character-at : (row : List Entry) (number : ℕ) → character_layers_at (map plain_entry row) number ≡ character_layers_at row number
character-at [] number = refl
character-at (entry ∷ row) zero = character-layers entry.content entry.layers
character-at (entry ∷ row) (suc number) = character-at row number

character-before : (row : List Entry) (number : ℕ) → seen.character_before (map plain_entry row) number ≡ seen.character_before row number
character-before row zero = refl
character-before row (suc number) = character-at row number

layers-at : (row : List Entry) (number : ℕ) → layers_at (map plain_entry row) number ≡ layers_at row number
layers-at [] number = refl
layers-at (entry ∷ row) zero = refl
layers-at (entry ∷ row) (suc number) = layers-at row number

layers-before : (row : List Entry) (number : ℕ) → layers_before (map plain_entry row) number ≡ layers_before row number
layers-before row zero = refl
layers-before row (suc number) = layers-at row number

-- the same mark in a row without numbers
abbrev plain_mark : Marked → Marked
plain_mark mark = record { row = map plain_entry mark.row; number = mark.number }

marked-row : (row : List Entry) (number : ℕ) (layers : List Layer) → (marked (map plain_entry row) number layers).row
    ≡ map plain_entry (marked row number layers).row
marked-row [] zero layers = refl
marked-row [] (suc number) layers = refl
marked-row (entry ∷ row) zero layers = refl
marked-row (entry ∷ row) (suc number) layers = ap (λ rest. plain_entry entry ∷ rest) (marked-row row number layers)

marked-plain : (row : List Entry) (number : ℕ) (layers : List Layer) → marked (map plain_entry row) number layers ≡ plain_mark (marked row number layers)
marked-plain row number layers = ap (λ made. record { row = made; number = number }) (marked-row row number layers)

between-plain : (row : List Entry) (start end : ℕ) (before behind : Option (List Layer)) → between (map plain_entry row) start end before behind
    ≡ plain_mark (between row start end before behind)
between-plain row start end (Some layers) behind = marked-plain row start layers
between-plain row start end None (Some layers) = marked-plain row end layers
between-plain row start end None None =
    (λ i. marked (map plain_entry row) end (common (layers-before row end i) (layers-at row end i)))
    ∙ marked-plain row end (common (layers_before row end) (layers_at row end))

mark-plain : (row : List Entry) (start end : ℕ) (has : Bool) → mark_at (map plain_entry row) start end has ≡ plain_mark (mark_at row start end has)
mark-plain row start end true = refl
mark-plain row start end false =
    (λ i. between (map plain_entry row) start end (character-before row start i) (character-at row end i))
    ∙ between-plain row start end (seen.character_before row start) (character_layers_at row end)

place-plain : (found : Found) (mark : Marked) → place_of found (plain_mark mark) ≡ place_of found mark
place-plain found mark =
    ap (λ pieces. in_pieces found pieces mark.number none_passed) (sym (row-plain mark.row)) ∙ found-plain found (pieces_of mark.row) mark.number none_passed

module _ (conversion : Conversion) (markers : Markers) (there : Option Caret) where
  entries-plain : (numbers : Numbers) (path : List ℕ) (offset : ℕ) → entries_before (numbered conversion markers there numbers) path offset
      ≡ entries_before (numbered conversion markers there unnumbered) path offset
  entries-plain numbers path zero = refl
  entries-plain numbers path (suc offset) =
      ap (λ n. n + length (boundary (numbered conversion markers there numbers) (path ++ offset ∷ [])) + 1) (entries-plain numbers path offset)

  -- a boundary is seen at the same place whatever the numbers are
  pub boundary-place-plain : (numbers : Numbers) (parent path : List ℕ) (list : List Item) (offset : ℕ)
      → boundary_place (numbered conversion markers there numbers) parent path list offset
      ≡ boundary_place (numbered conversion markers there unnumbered) parent path list offset
  boundary-place-plain numbers parent path list offset =
      let scene = numbered conversion markers there numbers in
      let row = row_of scene parent path list in
      let size = length (boundary scene (path ++ offset ∷ [])) in
      let start = entries_before scene path offset in
      let has = has_caret there (path ++ offset ∷ []) in
      sym (place-plain as_place (mark_at row start (start + size) has))
      ∙ ap (place_of as_place) (sym (mark-plain row start (start + size) has))
      ∙ (λ i. place_of as_place (mark_at (inner-plain conversion markers there numbers parent path 0 0 (items_of list) i)
      (entries-plain numbers path offset i) (entries-plain numbers path offset i + size) has))

  inside-plain : (numbers : Numbers) (path : List ℕ) (rest : List ℕ) (of : Option Item)
      → ((name : List ℕ) (inner : List Item) → place_in (numbered conversion markers there numbers) name path inner rest
      ≡ place_in (numbered conversion markers there unnumbered) name path inner rest)
      → in_children (λ name inner. place_in (numbered conversion markers there numbers) name path inner rest) of
      ≡ in_children (λ name inner. place_in (numbered conversion markers there unnumbered) name path inner rest) of
  inside-plain numbers path rest None h = refl
  inside-plain numbers path rest (Some (items.character scalar attributes)) h = refl
  inside-plain numbers path rest (Some (items.element id name attributes children)) h = h name (list_of children)

  -- and so is a position in the content of its parent
  pub place-in-plain : (numbers : Numbers) (parent path : List ℕ) (list : List Item) (position : List ℕ)
      → place_in (numbered conversion markers there numbers) parent path list position
      ≡ place_in (numbered conversion markers there unnumbered) parent path list position
  place-in-plain numbers parent path list [] = refl
  place-in-plain numbers parent path list (offset ∷ []) = boundary-place-plain numbers parent path list offset
  place-in-plain numbers parent path list (index ∷ next ∷ rest) =
      inside-plain numbers (path ++ index ∷ []) (next ∷ rest) (slice_get list index)
      (λ name inner. place-in-plain numbers name (path ++ index ∷ []) inner (next ∷ rest))
