-- The rule by which positions are seen, in its words: what stands before and behind a boundary, in what text its place is, and whether the place is
-- behind a character of it.
use Rattle.std.specs.Prelude.{◌≡◌, ℕ, ◌+◌, ◌-◌, zero, suc, nat_lt, List, [], ◌∷◌, ◌++◌, length, Bool, true, false, Option, Some, None, option_map, slice_get}
use Rattle.std.specs.Prelude.{if◌then◌else◌, codes}
use Rattle.item_definitions.specs.Item.{Item, Attributes, list_of, items_of}
use Rattle.item_definitions.specs.Item as items
use Rattle.item_definitions.specs.Children.{parent_of, offset_of}
use Rattle.document_definitions.specs.Document.{Document}
use Rattle.view_definitions.specs.Node.{ViewNode, ViewNodes, text, element, none, more, nodes_of}
use Rattle.view_definitions.specs.Layer.{Layer, layer_of}
use Rattle.view_definitions.specs.Place.{node_at}
use Rattle.view_definitions.specs.Row.{Content, leaf, item, character, caret, Pieces, nothing, first, bare, wrapped, pieces_of, nest}
use Rattle.converter_definitions.specs.Gives.{Conversion}
use Rattle.downcast_definitions.specs.Scene.{Scene, boundary, has_caret, scene_of}
use Rattle.downcast_definitions.specs.Rows.{row_of}
use Rattle.downcast_definitions.specs.Place.{pieces_size, begins_with_text}
use Rattle.downcast_definitions.specs.Meant.{Inners, meant_in}
use Rattle.downcast_definitions.specs.Seen.{entries_before, boundary_place, content_place}
use Rattle.downcast_definitions.specs.Shown.{HaveShapes}
use Rattle.downcast_definitions.specs.Among.{by_around, gap_among}

-- the nodes of the content of the element at a path, or of the root
abbrev pub content_nodes : Scene → List ℕ → List ℕ → List Item → List ViewNode
content_nodes scene parent path list = nest (row_of scene parent path list)

-- the item before a boundary
abbrev pub item_before : List Item → ℕ → Option Item
item_before list zero = None
item_before list (suc offset) = slice_get list offset

-- an element, or nothing
abbrev pub IsNoCharacter : Option Item → Type 0
IsNoCharacter None = Unit {0}
IsNoCharacter (Some (items.character scalar attributes)) = ⊥
IsNoCharacter (Some (items.element id name attributes children)) = Unit {0}

-- That the item at an offset of a parent is the character of this scalar value at an index of the text at this place of the parent's content: the
-- text has it there, and the place right before it in the text means the position before the item
pub record IsCharacterAt (nodes : List ViewNode) (offset scalar : ℕ) (place : List ℕ) (index : ℕ) : Type 0 where
  pub scalars : List ℕ
  pub there : node_at place nodes ≡ Some (text scalars)
  pub is : slice_get scalars index ≡ Some scalar
  pub means : (inners : Inners) → meant_in inners 0 (nodes_of nodes) (place ++ index ∷ []) ≡ Some (offset ∷ [])

-- that a place is in the text of the character that is the item at an offset, behind it
pub record IsBehindCharacter (nodes : List ViewNode) (offset scalar : ℕ) (place : List ℕ) : Type 0 where
  pub in_text : List ℕ
  pub index : ℕ
  pub at : IsCharacterAt nodes offset scalar in_text index
  pub is : place ≡ in_text ++ (index + 1) ∷ []

-- that a place is at the start of the text of the character that is the item at an offset
pub record IsBeforeCharacter (nodes : List ViewNode) (offset scalar : ℕ) (place : List ℕ) : Type 0 where
  pub in_text : List ℕ
  pub at : IsCharacterAt nodes offset scalar in_text 0
  pub is : place ≡ in_text ++ 0 ∷ []

-- that the elements of a row stand as shapes
abbrev pub StandAsShapes : Scene → List ℕ → List Item → Type 0
StandAsShapes scene parent list = HaveShapes scene.conversion parent 0 (items_of list)

-- that the caret stands at an offset of the element at a path
abbrev pub HasCaret : Scene → List ℕ → ℕ → Type 0
HasCaret scene path offset = has_caret scene.caret (path ++ offset ∷ []) ≡ true

-- and that it doesn't
abbrev pub HasNoCaret : Scene → List ℕ → ℕ → Type 0
HasNoCaret scene path offset = has_caret scene.caret (path ++ offset ∷ []) ≡ false

-- that the elements of a row stand as shapes, and that the caret doesn't stand at this offset of it
abbrev pub IsPlainBoundary : Scene → List ℕ → List ℕ → List Item → ℕ → Type 0
IsPlainBoundary scene parent path list offset = StandAsShapes scene parent list × HasNoCaret scene path offset

-- that the item at an offset is the character of a scalar value with these attributes
abbrev pub HasCharacter : List Item → ℕ → ℕ → Attributes → Type 0
HasCharacter list offset scalar attributes = slice_get list offset ≡ Some (items.character scalar attributes)

-- that the boundary behind the character at an offset is seen in that character's text, behind it
abbrev pub IsSeenBehind : Scene → List ℕ → List ℕ → List Item → ℕ → ℕ → Type 0
IsSeenBehind scene parent path list offset scalar =
    IsBehindCharacter (content_nodes scene parent path list) offset scalar (boundary_place scene parent path list (suc offset))

-- that the boundary before the character at an offset is seen at the start of that character's text
abbrev pub IsSeenBefore : Scene → List ℕ → List ℕ → List Item → ℕ → ℕ → Type 0
IsSeenBefore scene parent path list offset scalar =
    IsBeforeCharacter (content_nodes scene parent path list) offset scalar (boundary_place scene parent path list offset)

-- that a boundary is seen behind all nodes that show no item there, in the attribute elements that go on across it
abbrev pub IsSeenBetween : Scene → List ℕ → List ℕ → List Item → ℕ → Type 0
IsSeenBetween scene parent path list offset =
    boundary_place scene parent path list offset ≡ gap_among (nodes_of (content_nodes scene parent path list)) offset 0

-- ---- the list that holds an entry

-- whether a character is the last before what comes behind a content: the caret is no node
abbrev pub after : Content → Bool → Bool
after (leaf node) before = false
after (item node) before = false
after (character scalar) before = true
after caret before = before

-- whether the entry of a number stands directly behind a character in the list that holds it, where one stands before the pieces or not
abbrev pub text_before : Bool → Pieces → ℕ → Bool
text_before before nothing number = before
text_before before (first (bare content) pieces) zero = before
text_before before (first (bare content) pieces) (suc number) = text_before (after content before) pieces number
text_before before (first (wrapped layer inner) pieces) number =
    if nat_lt number (pieces_size inner) then text_before false inner number else text_before false pieces (number - pieces_size inner)

-- whether it stands directly before one
abbrev pub text_behind : Pieces → ℕ → Bool
text_behind nothing number = false
text_behind (first (bare content) pieces) zero = begins_with_text pieces
text_behind (first (bare content) pieces) (suc number) = text_behind pieces number
text_behind (first (wrapped layer inner) pieces) number =
    if nat_lt number (pieces_size inner) then text_behind inner number else text_behind pieces (number - pieces_size inner)

-- ---- places in texts

-- whether a place in a text is behind a character of it
abbrev pub text_kind : List ℕ → Option Bool
text_kind [] = None
text_kind (index ∷ []) = Some (nat_lt 0 index)
text_kind (index ∷ next ∷ rest) = None

abbrev mutual
  -- whether a place in a node is in a text, behind a character or at its start
  pub kind_in : ViewNode → List ℕ → Option Bool
  kind_in (text scalars) place = text_kind place
  kind_in (element head children) place = by_around head.kind (kind_at children place) None

  -- whether a place is behind a character in its text, or at the start of a text: None where it is in no text
  pub kind_at : ViewNodes → List ℕ → Option Bool
  kind_at none place = None
  kind_at (more node nodes) [] = None
  kind_at (more node nodes) (zero ∷ rest) = kind_in node rest
  kind_at (more node nodes) (suc index ∷ rest) = kind_at nodes (index ∷ rest)

-- the kind of a place with a character directly before it or not, and with one directly behind it or not
abbrev pub kind_of : Bool → Bool → Option Bool
kind_of true behind = Some true
kind_of false true = Some false
kind_of false false = None

-- the number of the caret's entry in the row of the element at a path, where the caret stands at this offset: the last one of its boundary
abbrev pub caret_number : Scene → List ℕ → ℕ → ℕ
caret_number scene path offset = entries_before scene path offset + length (boundary scene (path ++ offset ∷ [])) - 1

-- the kind of the place at the caret in the list that holds it
abbrev pub kind_at_caret : Pieces → ℕ → Option Bool
kind_at_caret pieces number = kind_of (text_before false pieces number) (text_behind pieces number)

-- that the place where the caret's boundary is seen is of that kind
abbrev pub IsSeenAtCaret : Scene → List ℕ → List ℕ → List Item → ℕ → Type 0
IsSeenAtCaret scene parent path list offset =
    kind_at (nodes_of (content_nodes scene parent path list)) (boundary_place scene parent path list offset)
    ≡ kind_at_caret (pieces_of (row_of scene parent path list)) (caret_number scene path offset)

-- ---- the attribute elements on the way

-- the layers on the way into an element: None where it is no attribute element
abbrev pub around_layer : Option Layer → Option (List Layer) → Option (List Layer)
around_layer None inside = None
around_layer (Some layer) inside = option_map (λ layers. layer ∷ layers) inside

abbrev mutual
  -- the layers on the way to a place in a node; in a text there are no further ones
  pub layers_in : ViewNode → List ℕ → Option (List Layer)
  layers_in (text scalars) place = Some []
  layers_in (element head children) place = around_layer (layer_of head) (layers_to children place)

  -- the layers of the attribute elements on the way to a place, the outermost first: None where the way leads through another element, or nowhere
  pub layers_to : ViewNodes → List ℕ → Option (List Layer)
  layers_to nodes [] = None
  layers_to none (zero ∷ []) = Some []
  layers_to none (zero ∷ next ∷ rest) = None
  layers_to none (suc index ∷ rest) = None
  layers_to (more node nodes) (zero ∷ []) = Some []
  layers_to (more node nodes) (zero ∷ next ∷ rest) = layers_in node (next ∷ rest)
  layers_to (more node nodes) (suc index ∷ rest) = layers_to nodes (index ∷ rest)

-- that the attribute elements on the way to the place where a boundary is seen are those of these layers
abbrev pub IsSeenInLayers : Scene → List ℕ → List ℕ → List Item → ℕ → List Layer → Type 0
IsSeenInLayers scene parent path list offset layers =
    layers_to (nodes_of (content_nodes scene parent path list)) (boundary_place scene parent path list offset) ≡ Some layers

-- ---- the parents of positions

-- what an item is the parent by: an element's name and items
abbrev pub in_parent : (List ℕ → List Item → Option (List ℕ × List Item)) → Option Item → Option (List ℕ × List Item)
in_parent inner None = None
in_parent inner (Some (items.character scalar attributes)) = None
in_parent inner (Some (items.element id name attributes children)) = inner name (list_of children)

-- the name and the items of the parent of a position in these items, whose own parent has this name: None where no element is there
abbrev pub parent_in : List ℕ → List Item → List ℕ → Option (List ℕ × List Item)
parent_in name list [] = None
parent_in name list (offset ∷ []) = Some (name, list)
parent_in name list (index ∷ next ∷ rest) = in_parent (λ inner children. parent_in inner children (next ∷ rest)) (slice_get list index)

-- the name and the items of the parent of a position of a document
abbrev pub parent_at : Document → List ℕ → Option (List ℕ × List Item)
parent_at document position = parent_in (codes "$root") document.items position

-- that a position is seen in the content of its own parent, at its boundary in there
abbrev pub IsSeenInParent : Conversion → Document → List ℕ → List ℕ → List Item → Type 0
IsSeenInParent conversion document position name list =
    content_place conversion document position ≡ boundary_place (scene_of conversion document) name (parent_of position) list (offset_of position)
