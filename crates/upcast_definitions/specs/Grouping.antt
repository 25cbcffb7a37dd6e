-- How leaves stand in the elements that their frames are.
use Rattle.std.specs.Prelude.{ℕ, ◌+◌, ◌≤◌, List, [], ◌∷◌, ◌++◌, map, drop, Bool, false, ◌==◌, if◌then◌else◌}
use Rattle.item_definitions.specs.Item.{Item, Items, character, element, none, more, list_of, items_of}
use Rattle.upcast_definitions.specs.Frames.{Frame, Content, letter, mark, Leaf}

mutual
  -- the content of a leaf, or a frame round further pieces
  pub data Piece : Type 0 where
    bare : Content → Piece
    framed : Frame → Pieces → Piece

  -- pieces one behind the other
  pub data Pieces : Type 0 where
    nothing : Pieces
    first : Piece → Pieces → Pieces

-- a content in these frames, before the pieces of the leaves behind it: the frames that it shares with the first piece, from the outermost on, are
-- one with those
abbrev pub put : List Frame → Content → Pieces → Pieces
put [] content pieces = first (bare content) pieces
put (frame ∷ frames) content nothing = first (framed frame (put frames content nothing)) nothing
put (frame ∷ frames) content (first (bare next) pieces) = first (framed frame (put frames content nothing)) (first (bare next) pieces)
put (frame ∷ frames) content (first (framed other inner) pieces) =
    if frame.number == other.number then first (framed frame (put frames content inner)) pieces
    else first (framed frame (put frames content nothing)) (first (framed other inner) pieces)

-- leaves as pieces
abbrev pub pieces_of : List Leaf → Pieces
pieces_of [] = nothing
pieces_of (leaf ∷ leaves) = put leaf.frames leaf.content (pieces_of leaves)

-- a content before items: a mark gives nothing
abbrev pub content_before : Content → Items → Items
content_before (letter scalar attributes) items = more (character scalar attributes) items
content_before (mark number) items = items

abbrev mutual
  -- a piece before items; an element gets its id where it is put into a document
  pub piece_before : Piece → Items → Items
  piece_before (bare content) items = content_before content items
  piece_before (framed frame pieces) items = more (element 0 frame.name frame.attributes (items_in pieces)) items

  -- the items that pieces are
  pub items_in : Pieces → Items
  items_in nothing = none
  items_in (first piece pieces) = piece_before piece (items_in pieces)

-- the items that leaves are
abbrev pub group : List Leaf → List Item
group leaves = list_of (items_in (pieces_of leaves))

-- whether the outermost of these frames has this number
abbrev pub begins : ℕ → List Frame → Bool
begins number [] = false
begins number (frame ∷ frames) = number == frame.number

-- the leaf without its outermost frame
abbrev pub within : Leaf → Leaf
within leaf = record leaf { frames = drop 1 leaf.frames }

-- the longest run of leaves, from the first on, whose outermost frame has this number
abbrev pub run_in : ℕ → List Leaf → List Leaf
run_in number [] = []
run_in number (leaf ∷ leaves) = if begins number leaf.frames then leaf ∷ run_in number leaves else []

-- the leaves behind this run
abbrev pub behind_run : ℕ → List Leaf → List Leaf
behind_run number [] = []
behind_run number (leaf ∷ leaves) = if begins number leaf.frames then behind_run number leaves else leaf ∷ leaves

-- grouping by its rule: a content without frames stands itself, and a mark without frames gives nothing. Else the longest run of leaves with the same
-- first frame is one element of that frame's name and attributes round the group of the run without that frame
abbrev pub by_first : List Frame → Content → List Leaf → List Leaf → List Item
by_first [] content all leaves = list_of (content_before content (items_of (group leaves)))
by_first (frame ∷ frames) content all leaves =
    element 0 frame.name frame.attributes (items_of (group (map within (run_in frame.number all)))) ∷ group (behind_run frame.number all)

-- the items that leaves are by the rule
abbrev pub group_by_rule : List Leaf → List Item
group_by_rule [] = []
group_by_rule (leaf ∷ leaves) = by_first leaf.frames leaf.content (leaf ∷ leaves) leaves

abbrev mutual
  -- the contents in a piece, each with the numbers of the frames that it is in, behind those that the piece is in
  pub standing_in : List ℕ → Piece → List (List ℕ × Content)
  standing_in numbers (bare content) = (numbers, content) ∷ []
  standing_in numbers (framed frame pieces) = standing (numbers ++ frame.number ∷ []) pieces

  -- the contents in pieces, in their order
  pub standing : List ℕ → Pieces → List (List ℕ × Content)
  standing numbers nothing = []
  standing numbers (first piece pieces) = standing_in numbers piece ++ standing numbers pieces

-- a leaf's content with the numbers of its frames
abbrev pub placed_content : Leaf → List ℕ × Content
placed_content leaf = (map (λ frame. frame.number) leaf.frames, leaf.content)

abbrev mutual
  -- the numbers of the frames in a piece, in document order
  pub numbers_in : Piece → List ℕ
  numbers_in (bare content) = []
  numbers_in (framed frame pieces) = frame.number ∷ element_numbers pieces

  -- the numbers of the elements that pieces are, in document order: an element before those in it
  pub element_numbers : Pieces → List ℕ
  element_numbers nothing = []
  element_numbers (first piece pieces) = numbers_in piece ++ element_numbers pieces

-- numbers rise from one, and are below another
abbrev pub AreRising : ℕ → List ℕ → ℕ → Type 0
AreRising low [] high = low ≤ high
AreRising low (number ∷ numbers) high = (low ≤ number) × AreRising (number + 1) numbers high
