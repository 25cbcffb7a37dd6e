-- A document of two paragraphs. The second has a key that the sample's schema denies it.
use Rattle.std.specs.Prelude.{List, [], ◌∷◌, true, codes}
use Rattle.ck_base.specs.declared.value.Value.TheVariants.{Truth}
use Rattle.item_definitions.specs.Item.{Item, character, element, none, more}

-- a paragraph with bold text, and a bold paragraph
abbrev pub second_is_bold : List Item
second_is_bold = element 1 (codes "paragraph") [] (more (character 97 ((codes "bold", Truth true) ∷ [])) none)
    ∷ element 2 (codes "paragraph") ((codes "bold", Truth true) ∷ []) none ∷ []
