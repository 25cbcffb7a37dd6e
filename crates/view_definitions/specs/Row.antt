-- The row of a parent, and the nodes that it nests to.
use Rattle.std.specs.Prelude.{◌≡◌, ℕ, List, [], ◌∷◌, ◌++◌, map, drop, Bool, true, false, if◌then◌else◌, Option, Some, None}
use Rattle.view_definitions.specs.Node.{Kind, container, attribute, empty, ui, Head, ViewNode, ViewNodes, text, element, none, more, list_of, nodes_of}
use Rattle.view_definitions.specs.Layer.{Layer, same_layer, layer_of, in_layer}

-- what an entry of a row stands for: the leaf of a marker, an element of the model as its node, a character, or the caret
pub data Content : Type 0 where
  leaf : ViewNode → Content
  item : ViewNode → Content
  character : ℕ → Content
  caret : Content

-- an entry with its layers, the outermost first
pub record Entry : Type 0 where
  pub content : Content
  pub layers : List Layer

mutual
  -- a part of a nested row: an entry's content, or a layer around further parts
  pub data Piece : Type 0 where
    bare : Content → Piece
    wrapped : Layer → Pieces → Piece

  -- parts one behind the other
  pub data Pieces : Type 0 where
    nothing : Pieces
    first : Piece → Pieces → Pieces

-- the content in these layers, before the pieces of the entries behind it: the layers that it shares with the first piece, from the
-- outermost on, are one with those
abbrev pub put : List Layer → Content → Pieces → Pieces
put [] content pieces = first (bare content) pieces
put (layer ∷ layers) content nothing = first (wrapped layer (put layers content nothing)) nothing
put (layer ∷ layers) content (first (bare next) pieces) = first (wrapped layer (put layers content nothing)) (first (bare next) pieces)
put (layer ∷ layers) content (first (wrapped other inner) pieces) =
    if same_layer layer other then first (wrapped layer (put layers content inner)) pieces
    else first (wrapped layer (put layers content nothing)) (first (wrapped other inner) pieces)

-- a row as pieces
abbrev pub pieces_of : List Entry → Pieces
pieces_of [] = nothing
pieces_of (entry ∷ row) = put entry.layers entry.content (pieces_of row)

-- a character before these nodes: it is one text with a text that they begin with
abbrev pub character_before : ℕ → List ViewNode → List ViewNode
character_before scalar [] = text (scalar ∷ []) ∷ []
character_before scalar (text scalars ∷ nodes) = text (scalar ∷ scalars) ∷ nodes
character_before scalar (element head children ∷ nodes) = text (scalar ∷ []) ∷ element head children ∷ nodes

-- a content before these nodes: the caret stands for no node
abbrev pub content_before : Content → List ViewNode → List ViewNode
content_before (leaf node) nodes = node ∷ nodes
content_before (item node) nodes = node ∷ nodes
content_before (character scalar) nodes = character_before scalar nodes
content_before caret nodes = nodes

abbrev mutual
  -- a part before these nodes
  pub piece_before : Piece → List ViewNode → List ViewNode
  piece_before (bare content) nodes = content_before content nodes
  piece_before (wrapped layer inner) nodes = in_layer layer (shown inner) ∷ nodes

  -- the nodes that pieces are
  pub shown : Pieces → List ViewNode
  shown nothing = []
  shown (first piece pieces) = piece_before piece (shown pieces)

-- the nodes that a row nests to
abbrev pub nest : List Entry → List ViewNode
nest row = shown (pieces_of row)

-- whether the outermost of these layers is this one
abbrev pub begins : Layer → List Layer → Bool
begins layer [] = false
begins layer (other ∷ layers) = same_layer layer other

-- the entry without its outermost layer
abbrev pub within : Entry → Entry
within entry = record entry { layers = drop 1 entry.layers }

-- the longest run of entries, from the first on, whose outermost layers equal this one
abbrev pub run_in : Layer → List Entry → List Entry
run_in layer [] = []
run_in layer (entry ∷ row) = if begins layer entry.layers then entry ∷ run_in layer row else []

-- the entries behind this run
abbrev pub behind_run : Layer → List Entry → List Entry
behind_run layer [] = []
behind_run layer (entry ∷ row) = if begins layer entry.layers then behind_run layer row else entry ∷ row

-- nesting by its rule. An entry without layers stands itself, and neighbouring characters are one text. Else the longest run of entries
-- whose outermost layers equal the first one's is one attribute element around what the run nests to without this layer
abbrev pub by_first : List Layer → Entry → List Entry → List ViewNode
by_first [] entry row = content_before entry.content (nest row)
by_first (layer ∷ layers) entry row =
    in_layer layer (nest (map within (run_in layer (entry ∷ row)))) ∷ nest (behind_run layer (entry ∷ row))

-- the nodes that a row nests to by the rule
abbrev pub nest_by_rule : List Entry → List ViewNode
nest_by_rule [] = []
nest_by_rule (entry ∷ row) = by_first entry.layers entry row

-- whether two elements are attribute elements, without numbers, of equal layers
abbrev pub both_layers : Option Layer → Option Layer → Bool
both_layers None other = false
both_layers (Some layer) None = false
both_layers (Some layer) (Some other) = same_layer layer other

-- whether an element with this head is one with another that it stands before
abbrev pub joins : Head → Head → Bool
joins head other = both_layers (layer_of head) (layer_of other)

abbrev mutual
  -- a node before these nodes: two texts that meet are one, and so are attribute elements of equal layers, whose children are joined
  pub join_node : ViewNode → List ViewNode → List ViewNode
  join_node (text scalars) [] = text scalars ∷ []
  join_node (text scalars) (text more_scalars ∷ nodes) = text (scalars ++ more_scalars) ∷ nodes
  join_node (text scalars) (element head children ∷ nodes) = text scalars ∷ element head children ∷ nodes
  join_node (element head children) [] = element head children ∷ []
  join_node (element head children) (text scalars ∷ nodes) = element head children ∷ text scalars ∷ nodes
  join_node (element head children) (element other inner ∷ nodes) =
      if joins head other then element head (nodes_of (join_inner children (list_of inner))) ∷ nodes
      else element head children ∷ element other inner ∷ nodes

  -- children before these nodes, joined where they meet
  pub join_inner : ViewNodes → List ViewNode → List ViewNode
  join_inner none nodes = nodes
  join_inner (more node none) nodes = join_node node nodes
  join_inner (more node (more next rest)) nodes = node ∷ join_inner (more next rest) nodes

-- two lists of nodes, one behind the other, joined where they meet, on every level
abbrev pub join : List ViewNode → List ViewNode → List ViewNode
join [] nodes = nodes
join (node ∷ []) nodes = join_node node nodes
join (node ∷ next ∷ rest) nodes = node ∷ join (next ∷ rest) nodes

-- whether a marker's leaf may be such an element, and what an item of the model stands as
abbrev pub is_leaf_kind : Kind → Bool
is_leaf_kind container = false
is_leaf_kind (attribute priority id) = false
is_leaf_kind empty = false
is_leaf_kind ui = true

-- whether an item of the model may stand as such an element
abbrev pub is_item_kind : Kind → Bool
is_item_kind container = true
is_item_kind (attribute priority id) = false
is_item_kind empty = true
is_item_kind ui = false

-- whether a node is an element of a kind that passes a test
abbrev pub is_element : (Kind → Bool) → ViewNode → Bool
is_element test (text scalars) = false
is_element test (element head children) = test head.kind

-- what may stand in a row without the caret: leaves that are UI elements, items that are containers or empty elements, and characters
abbrev pub is_plain : Content → Bool
is_plain (leaf node) = is_element is_leaf_kind node
is_plain (item node) = is_element is_item_kind node
is_plain (character scalar) = true
is_plain caret = false

-- a row without the caret
abbrev pub IsPlainRow : List Entry → Type 0
IsPlainRow [] = Unit {0}
IsPlainRow (entry ∷ row) = (is_plain entry.content ≡ true) × IsPlainRow row
