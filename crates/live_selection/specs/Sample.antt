-- Characters and elements for the worked examples.
use Rattle.std.specs.Prelude.{ℕ, List, [], ◌∷◌, true}
use Rattle.ck_base.specs.declared.value.Value.TheVariants.{Truth}
use Rattle.item_definitions.specs.Item.{Item, Attributes, character, element, items_of}

-- the key `b`, which is true
abbrev pub bold : Attributes
bold = (98 ∷ [], Truth true) ∷ []

-- the character `a` without attributes, and the bold one
abbrev pub plain_a : Item
plain_a = character 97 []

-- the character `a` in bold
abbrev pub bold_a : Item
bold_a = character 97 bold

-- the element `p` with an id and items
abbrev pub paragraph_of : ℕ → List Item → Item
paragraph_of id items = element id (112 ∷ []) [] (items_of items)
