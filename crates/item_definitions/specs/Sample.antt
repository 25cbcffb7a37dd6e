-- Items for the worked examples.
use Rattle.std.specs.Prelude.{ℕ, List, [], ◌∷◌, map}
use Rattle.item_definitions.specs.Item.{Item, character, element, items_of}

-- the element `p` with an id and a text without attributes
abbrev pub paragraph : ℕ → List ℕ → Item
paragraph id text = element id (112 ∷ []) [] (items_of (map (λ scalar. character scalar []) text))

-- `ab` and `cd`
abbrev pub two_paragraphs : List Item
two_paragraphs = paragraph 1 (97 ∷ 98 ∷ []) ∷ paragraph 2 (99 ∷ 100 ∷ []) ∷ []
