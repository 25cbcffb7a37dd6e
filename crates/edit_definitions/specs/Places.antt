-- The tests of an edit's places and names.
use Rattle.std.specs.Prelude.{ℕ, List, [], ◌∷◌, Bool, false, not, ◌&&◌, nat_eq, nat_le, Option, is_some}
use Rattle.std.specs.Option.{option_map_or, option_and_then}
use Rattle.std.specs.Cmp.Lexicographic.{pointwise}
use Rattle.ck_base.specs.Name.{is_generic}
use Rattle.item_definitions.specs.Item.{Item, inner}
use Rattle.item_definitions.specs.Children.{parent_of, offset_of, child_count, item_at}
use Rattle.item_definitions.specs.Position.{not_after}

-- a position is in the items
abbrev pub is_there : List Item → List ℕ → Bool
is_there items [] = false
is_there items (number ∷ path) = option_map_or (λ count. nat_le (offset_of (number ∷ path)) count) (child_count items (parent_of (number ∷ path))) false

-- two positions are in the items, and the first doesn't come behind the second
abbrev pub is_range : List Item → List ℕ → List ℕ → Bool
is_range items start end = is_there items start && is_there items end && not_after start end

-- two positions have one parent
abbrev pub are_in_one : List ℕ → List ℕ → Bool
are_in_one start end = pointwise nat_eq (parent_of start) (parent_of end)

-- the items in the element at a path: None where no element stands there, and for the empty path, which is the root's
abbrev pub element_at : List Item → List ℕ → Option (List Item)
element_at items path = option_and_then inner (item_at path items)

-- an element stands at a path
abbrev pub is_element : List Item → List ℕ → Bool
is_element items path = is_some (element_at items path)

-- a position is strictly between two others, or in an item between them
abbrev pub is_between : List ℕ → List ℕ → List ℕ → Bool
is_between start end position = not (not_after position start) && not (not_after end position)

-- a name is that of an element that may be made
abbrev pub is_known : (List ℕ → Bool) → List ℕ → Bool
is_known registered name = registered name && not (is_generic name)
