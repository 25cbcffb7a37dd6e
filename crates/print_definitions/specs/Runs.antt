-- What a list of items is printed as, by its longest runs of characters of equal attributes.
use Rattle.std.specs.Prelude.{◌≡◌, ◌≢◌, ℕ, ◌+◌, List, [], ◌∷◌, ◌++◌, map, length, None, codes}
use Rattle.std.specs.List.{flat_map}
use Rattle.item_definitions.specs.Item.{Item, Items, Attributes, character, element, list_of}
use Rattle.machine_definitions.specs.Texts.{printed_scalar}
use Rattle.print_definitions.specs.Marks.{Ends, inside, outer_marks, marked}
use Rattle.print_definitions.specs.Values.{attributes_text, open_tag, close_tag}
use Rattle.print_definitions.specs.ModelText.{items_text}

-- a run of one or more characters with these attributes, by its first Unicode scalar value and the further ones; or an element by its id,
-- its name, its attributes and its items
pub data Piece : Type 0 where
  run : Attributes → ℕ → List ℕ → Piece
  tagged : ℕ → List ℕ → Attributes → Items → Piece

-- the items that it stands for
abbrev pub items_of_piece : Piece → List Item
items_of_piece (run attributes scalar scalars) = map (λ scalar. character scalar attributes) (scalar ∷ scalars)
items_of_piece (tagged id name attributes children) = element id name attributes children ∷ []

-- what follows doesn't begin with a run of these attributes
abbrev pub IsNoLonger : Attributes → List Piece → Type 0
IsNoLonger attributes [] = Unit {0}
IsNoLonger attributes (run others scalar scalars ∷ pieces) = attributes ≢ others
IsNoLonger attributes (tagged id name others children ∷ pieces) = Unit {0}

-- no run goes on in the next piece
abbrev pub AreApart : List Piece → Type 0
AreApart [] = Unit {0}
AreApart (run attributes scalar scalars ∷ pieces) = IsNoLonger attributes pieces × AreApart pieces
AreApart (tagged id name attributes children ∷ pieces) = AreApart pieces

-- the longest runs of equal attributes in a list of items, and the elements between them: in order they make up the items
pub record AreRuns (items : List Item) (pieces : List Piece) : Type 0 where
  pub whole : flat_map items_of_piece pieces ≡ items
  pub apart : AreApart pieces

-- a text in `$text` where it has attributes
abbrev pub in_text : Attributes → List ℕ → List ℕ
in_text [] content = content
in_text (entry ∷ attributes) content = open_tag (codes "$text") (attributes_text (entry ∷ attributes)) ++ (content ++ close_tag (codes "$text"))

-- a piece at an offset: the marks there, and then a run in one `$text`, with the marks between its characters, or an element
abbrev pub piece_text : Ends → ℕ → Piece → List ℕ
piece_text ends offset (run attributes scalar scalars) =
    outer_marks ends offset ++ in_text attributes (printed_scalar scalar ++ marked (outer_marks ends) (offset + 1) scalars)
piece_text ends offset (tagged id name attributes children) =
    outer_marks ends offset ++ (open_tag name (attributes_text attributes) ++ (items_text (inside offset ends) 0 None (list_of children) ++ close_tag name))

-- pieces from an offset on, and the marks behind the last
abbrev pub pieces_text : Ends → ℕ → List Piece → List ℕ
pieces_text ends offset [] = outer_marks ends offset
pieces_text ends offset (piece ∷ pieces) = piece_text ends offset piece ++ pieces_text ends (offset + length (items_of_piece piece)) pieces
