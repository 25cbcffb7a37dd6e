-- A code for items, by which proofs tell them apart.
use Rattle.std.specs.Prelude.{◌≡◌, List, [], ◌∷◌, refl}
use Rattle.std.specs.Coded.{Coded, code_by}
use Rattle.item_definitions.specs.Item.{Item, character}
use Rattle.item_definitions.specs.ItemCode.{coded_items}

-- the first of some items
abbrev first_of : List Item → Item
first_of [] = character 0 []
first_of (item ∷ items) = item

-- no item is lost
pub first_back : (item : Item) → first_of (item ∷ []) ≡ item
first_back item = refl

-- a code for an item
abbrev pub coded_item : Coded Item
coded_item = code_by (List Item) coded_items (λ item. item ∷ []) first_of first_back
