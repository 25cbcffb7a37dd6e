-- Where the view shows a position of the document. (After `Mapper.toViewPosition` of CKEditor 5.)
use Rattle.std.specs.Prelude.{ℕ, ◌+◌, ◌-◌, zero, suc, List, [], ◌∷◌, ◌++◌, length, take, drop, Bool, true, false, Option, Some, None, option_and_then}
use Rattle.std.specs.Prelude.{slice_get, if◌then◌else◌, codes}
use Rattle.std.specs.Option.{option_map_or}
use Rattle.item_definitions.specs.Item.{Item, list_of}
use Rattle.item_definitions.specs.Item as items
use Rattle.document_definitions.specs.Document.{Document}
use Rattle.view_definitions.specs.Layer.{Layer, same_layer}
use Rattle.view_definitions.specs.Row.{Content, leaf, item, character, caret, Entry, pieces_of}
use Rattle.converter_definitions.specs.Shape.{slot_in}
use Rattle.converter_definitions.specs.Gives.{Conversion}
use Rattle.downcast_definitions.specs.Scene.{Scene, scene_of, has_caret, boundary}
use Rattle.downcast_definitions.specs.Rows.{elements_in, row_of, shape_at}
use Rattle.downcast_definitions.specs.Place.{Found, as_place, as_node, in_pieces, none_passed}

-- how many entries of the row of the element at a path stand before the boundary at an offset
abbrev pub entries_before : Scene → List ℕ → ℕ → ℕ
entries_before scene path zero = 0
entries_before scene path (suc offset) = entries_before scene path offset + length (boundary scene (path ++ offset ∷ [])) + 1

-- the layers of an entry that is a character
abbrev pub of_character : Content → List Layer → Option (List Layer)
of_character (leaf node) layers = None
of_character (item node) layers = None
of_character (character scalar) layers = Some layers
of_character caret layers = None

-- the layers of the entry of a number, if it is a character
abbrev pub character_layers_at : List Entry → ℕ → Option (List Layer)
character_layers_at row number = option_and_then (λ entry. of_character entry.content entry.layers) (slice_get row number)

-- the outermost layers that two lists have in common
abbrev pub common : List Layer → List Layer → List Layer
common [] others = []
common (layer ∷ layers) [] = []
common (layer ∷ layers) (other ∷ others) = if same_layer layer other then layer ∷ common layers others else []

-- the layers of the entry of a number, none where there is none
abbrev pub layers_at : List Entry → ℕ → List Layer
layers_at row number = option_map_or (λ entry. entry.layers) (slice_get row number) []

-- the entry before the one of a number
abbrev pub layers_before : List Entry → ℕ → List Layer
layers_before row zero = []
layers_before row (suc number) = layers_at row number

-- the layers of the entry before the one of a number, if it is a character
abbrev pub character_before : List Entry → ℕ → Option (List Layer)
character_before row zero = None
character_before row (suc number) = character_layers_at row number

-- a row with an entry more that is no node
pub record Marked : Type 0 where
  pub row : List Entry
  pub number : ℕ

-- such an entry before that of this number, in these layers
abbrev pub marked : List Entry → ℕ → List Layer → Marked
marked row number layers = record { row = take number row ++ (record { content = caret; layers = layers } ∷ drop number row); number = number }

-- behind the character before the position, with its layers; else before the character behind the position, with its layers; else behind the
-- leaves, in the layers that go on there
abbrev pub between : List Entry → ℕ → ℕ → Option (List Layer) → Option (List Layer) → Marked
between row start end (Some layers) behind = marked row start layers
between row start end None (Some layers) = marked row end layers
between row start end None None = marked row end (common (layers_before row end) (layers_at row end))

-- where a position is seen whose boundary is the entries from a start on, before an end. Where the caret stands there it is the last of them
abbrev pub mark_at : List Entry → ℕ → ℕ → Bool → Marked
mark_at row start end true = record { row = row; number = end - 1 }
mark_at row start end false = between row start end (character_before row start) (character_layers_at row end)

-- where such an entry stands in the nodes that its row nests to
abbrev pub place_of : Found → Marked → List ℕ
place_of found mark = in_pieces found (pieces_of mark.row) mark.number none_passed

-- where a boundary of the row of a parent is seen, in the parent's content
abbrev pub boundary_place : Scene → List ℕ → List ℕ → List Item → ℕ → List ℕ
boundary_place scene parent path list offset =
    let start = entries_before scene path offset in
    let here = path ++ offset ∷ [] in
    place_of as_place (mark_at (row_of scene parent path list) start (start + length (boundary scene here)) (has_caret scene.caret here))

-- where the node of the item at an index stands in its parent's content
abbrev pub node_place : Scene → List ℕ → List ℕ → List Item → ℕ → List ℕ
node_place scene parent path list index =
    place_of as_node (record { row = row_of scene parent path list; number = entries_before scene path index + length (boundary scene (path ++ index ∷ [])) })

-- a place in the content of a slot as one in the element around it: the content begins where the slot is
abbrev pub into_slot : List ℕ → List ℕ → List ℕ
into_slot [] place = place
into_slot (base ∷ []) [] = base ∷ []
into_slot (base ∷ []) (index ∷ place) = (base + index) ∷ place
into_slot (index ∷ next ∷ rest) place = index ∷ into_slot (next ∷ rest) place

-- how many elements stand before the item at an index
abbrev pub elements_before : List Item → ℕ → ℕ
elements_before list zero = 0
elements_before [] (suc index) = 0
elements_before (first ∷ list) (suc index) = elements_in first + elements_before list index

-- in an element with a slot, the place in its content; an element without one is seen where the position before it is
abbrev pub in_slot : List ℕ → List ℕ → List ℕ → Option (List ℕ) → List ℕ
in_slot outside node inner None = outside
in_slot outside node inner (Some slot) = node ++ into_slot slot inner

-- where a position in the item at an index is seen
abbrev pub in_element : Scene → List ℕ → List ℕ → List Item → ℕ → (List ℕ → List Item → List ℕ) → Option Item → List ℕ
in_element scene parent path list index inner None = boundary_place scene parent path list index
in_element scene parent path list index inner (Some (items.character scalar attributes)) = boundary_place scene parent path list index
in_element scene parent path list index inner (Some (items.element id name attributes children)) =
    in_slot (boundary_place scene parent path list index) (node_place scene parent path list index) (inner name (list_of children))
    (slot_in (shape_at scene.conversion parent (elements_before list index) name attributes).form)

-- where a position in these items is seen, in the content of their parent
abbrev pub seen_in : Scene → List ℕ → List ℕ → List Item → List ℕ → List ℕ
seen_in scene parent path list [] = []
seen_in scene parent path list (offset ∷ []) = boundary_place scene parent path list offset
seen_in scene parent path list (index ∷ next ∷ rest) =
    in_element scene parent path list index (λ name inner. seen_in scene name (path ++ index ∷ []) inner (next ∷ rest)) (slice_get list index)

-- in the items of an element; no other item has any
abbrev pub in_children : (List ℕ → List Item → List ℕ) → Option Item → List ℕ
in_children inner None = []
in_children inner (Some (items.character scalar attributes)) = []
in_children inner (Some (items.element id name attributes children)) = inner name (list_of children)

-- where a position in these items is seen in the content of its own parent
abbrev pub place_in : Scene → List ℕ → List ℕ → List Item → List ℕ → List ℕ
place_in scene parent path list [] = []
place_in scene parent path list (offset ∷ []) = boundary_place scene parent path list offset
place_in scene parent path list (index ∷ next ∷ rest) =
    in_children (λ name inner. place_in scene name (path ++ index ∷ []) inner (next ∷ rest)) (slice_get list index)

-- where a position of a document is seen in the content of its own parent
abbrev pub content_place : Conversion → Document → List ℕ → List ℕ
content_place conversion document position = place_in (scene_of conversion document) (codes "$root") [] document.items position

-- where a position of a document is seen
abbrev pub seen : Conversion → Document → List ℕ → List ℕ
seen conversion document position = seen_in (scene_of conversion document) (codes "$root") [] document.items position
