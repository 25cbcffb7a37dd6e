-- The characters beside a caret, and the extended grapheme clusters that they make up. (After UAX #29.)
use Rattle.std.specs.Prelude.{◌≡◌, ℕ, List, [], ◌∷◌, reverse, take, drop, length, Some, None, unwrap_or, slice_get, chars, encode_utf8_all, true}
use Rattle.std.specs.Str.{all_scalars}
use Rattle.std.specs.List.{last_or}
use Rattle.item_definitions.specs.Item.{Item, Attributes, character, element}
use Rattle.item_definitions.specs.Children.{parent_of, offset_of, children_at, item_at}
use Rattle.unicode_segmentation.specs.Grapheme.{graphemes}

-- the characters with which a list begins, up to its first element
abbrev pub leading : List Item → List ℕ
leading [] = []
leading (character scalar attributes ∷ items) = scalar ∷ leading items
leading (element id name attributes children ∷ items) = []

-- the items beside a position: all those of its parent
abbrev pub items_around : List Item → List ℕ → List Item
items_around items position = unwrap_or (children_at (parent_of position) items) []

-- the longest run of characters directly before a position in its parent
abbrev pub text_before : List Item → List ℕ → List ℕ
text_before items position = reverse (leading (reverse (take (offset_of position) (items_around items position))))

-- the longest run of characters directly behind a position in its parent
abbrev pub text_behind : List Item → List ℕ → List ℕ
text_behind items position = leading (drop (offset_of position) (items_around items position))

-- the extended grapheme clusters of a text, each as its characters
abbrev pub clusters : List ℕ → List (List ℕ)
clusters text = graphemes true (encode_utf8_all text)

-- how many characters the last cluster of a text has
abbrev pub last_cluster : List ℕ → ℕ
last_cluster text = length (chars (unwrap_or (last_or None (clusters text)) []))

-- how many characters the first cluster of a text has
abbrev pub first_cluster : List ℕ → ℕ
first_cluster text = length (chars (unwrap_or (slice_get (clusters text) 0) []))

-- Each character of a document is a Unicode scalar value. (The program's own are, since it keeps them as `char`.)
abbrev pub HaveScalars : List Item → Type 0
HaveScalars items = (path : List ℕ) (scalar : ℕ) (attributes : Attributes) → item_at path items ≡ Some (character scalar attributes)
    → all_scalars (scalar ∷ []) ≡ true
