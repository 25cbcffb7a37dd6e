-- How large a list of items is, as numbers of machine words tell it.
use Rattle.std.specs.Prelude.{◌≡◌, ℕ, ◌-◌, ◌^◌, min, List, length}
use Rattle.item_definitions.specs.Item.{Item, count_of, depth_of}

-- how many items a list has, how many there are at all depths, and the depth of the deepest; a number that is larger than its word is the
-- greatest one of that word
pub record AreSizes (items : List Item) (long count depth : ℕ) : Type 0 where
  pub long_is : long ≡ min (length items) (2 ^ 64 - 1)
  pub count_is : count ≡ min (count_of items) (2 ^ 64 - 1)
  pub depth_is : depth ≡ min (depth_of items) (2 ^ 32 - 1)
