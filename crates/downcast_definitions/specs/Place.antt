-- Where the entries of a row stand in the nodes that it nests to.
use Rattle.std.specs.Prelude.{ℕ, ◌+◌, ◌-◌, ◌==◌, nat_lt, List, [], ◌∷◌, Bool, true, false, Option, Some, None, if◌then◌else◌}
use Rattle.view_definitions.specs.Row.{Content, leaf, item, character, caret, Piece, bare, wrapped, Pieces, nothing, first}

abbrev mutual
  -- how many entries a piece is made of
  pub piece_size : Piece → ℕ
  piece_size (bare content) = 1
  piece_size (wrapped layer inner) = pieces_size inner

  -- how many entries some pieces are made of
  pub pieces_size : Pieces → ℕ
  pieces_size nothing = 0
  pieces_size (first piece pieces) = piece_size piece + pieces_size pieces

-- what stands before an entry in one list of nodes
pub record Passed : Type 0 where
  -- how many nodes
  pub nodes : ℕ
  -- the length of the last one, if that is a text
  pub in_text : Option ℕ

-- at the beginning of a list
abbrev pub none_passed : Passed
none_passed = record { nodes = 0; in_text = None }

-- behind a node that is no text
abbrev pub node_more : Passed → Passed
node_more passed = record { nodes = passed.nodes + 1; in_text = None }

-- behind a character, with which a text goes on or begins
abbrev pub character_more : ℕ → Option ℕ → Passed
character_more nodes None = record { nodes = nodes + 1; in_text = Some 1 }
character_more nodes (Some length) = record { nodes = nodes; in_text = Some (length + 1) }

-- behind a content: neighbouring characters are one text, and the caret is no node
abbrev pub behind_content : Content → Passed → Passed
behind_content (leaf node) passed = node_more passed
behind_content (item node) passed = node_more passed
behind_content (character scalar) passed = character_more passed.nodes passed.in_text
behind_content caret passed = passed

abbrev mutual
  -- whether a piece begins with a character in its own list, carets apart
  pub is_text : Piece → Bool → Bool
  is_text (bare (leaf node)) rest = false
  is_text (bare (item node)) rest = false
  is_text (bare (character scalar)) rest = true
  is_text (bare caret) rest = rest
  is_text (wrapped layer inner) rest = false

  -- whether pieces do
  pub begins_with_text : Pieces → Bool
  begins_with_text nothing = false
  begins_with_text (first piece pieces) = is_text piece (begins_with_text pieces)

-- what an entry is found as, by what stands before it and by whether a text begins behind it
abbrev pub Found : Type 0
Found = Passed → Bool → List ℕ

-- behind the last character, in its text; else at the start of the text behind; else between the nodes
abbrev pub in_or_before_text : Passed → Bool → Option ℕ → List ℕ
in_or_before_text passed behind (Some length) = (passed.nodes - 1) ∷ length ∷ []
in_or_before_text passed true None = passed.nodes ∷ 0 ∷ []
in_or_before_text passed false None = passed.nodes ∷ []

-- an entry that is no node: it is behind the character directly before it in its list, in that character's text; else at the start of the text
-- of the character directly behind it; else between the nodes
abbrev pub as_place : Found
as_place passed behind = in_or_before_text passed behind passed.in_text

-- an entry that is a node of its own
abbrev pub as_node : Found
as_node passed behind = passed.nodes ∷ []

abbrev mutual
  -- where the entry of this number stands in a piece, or else among the rest
  pub in_piece : Found → Piece → Bool → (ℕ → Passed → List ℕ) → ℕ → Passed → List ℕ
  in_piece found (bare content) behind rest number passed =
      if number == 0 then found passed behind else rest (number - 1) (behind_content content passed)
  in_piece found (wrapped layer inner) behind rest number passed =
      if nat_lt number (pieces_size inner) then passed.nodes ∷ in_pieces found inner number none_passed
      else rest (number - pieces_size inner) (node_more passed)

  -- where the entry of this number stands, among pieces behind what was passed
  pub in_pieces : Found → Pieces → ℕ → Passed → List ℕ
  in_pieces found nothing number passed = found passed false
  in_pieces found (first piece pieces) number passed =
      in_piece found piece (begins_with_text pieces) (in_pieces found pieces) number passed
