-- Items for the worked examples.
use Rattle.std.specs.Prelude.{List, [], ◌∷◌}
use Rattle.item_definitions.specs.Item.{Item}
use Rattle.item_definitions.specs.Sample.{paragraph}

-- `axyb`, `ab`
abbrev pub one_paragraph : List Item
one_paragraph = paragraph 1 (97 ∷ 98 ∷ []) ∷ []
