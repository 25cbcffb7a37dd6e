-- Items that all have one value of a key.
use Rattle.std.specs.Prelude.{◌≡◌, ℕ, List, [], ◌∷◌, Option}
use Rattle.ck_base.specs.declared.value.Value.{Value as AttributeValue}
use Rattle.ck_base.specs.Entries.{value_of}
use Rattle.item_definitions.specs.Item.{Item, attributes_of}

-- each of the items has this value of a key, or each has none
abbrev pub HaveOne : List ℕ → Option AttributeValue → List Item → Type 0
HaveOne key value [] = Unit {0}
HaveOne key value (item ∷ items) = (value ≡ value_of key (attributes_of item)) × HaveOne key value items
