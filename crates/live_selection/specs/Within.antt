-- The first character between two bounds, as it is looked for among the items of one element and all that is in them.
use Rattle.std.specs.Prelude.{ℕ, zero, suc, ◌+◌, List, [], Bool, true, false, ◌&&◌, ◌||◌, Option, Some, None, find, option_and_then, option_copied}
use Rattle.item_definitions.specs.Item.{Item, Attributes, items_of}
use Rattle.item_definitions.specs.Children.{walk_inner}
use Rattle.item_definitions.specs.Position.{not_after, behind}
use Rattle.document_definitions.specs.Selection.{of_character, is_character}
use Rattle.live_selection.specs.declared.bounds.Bounds.{Bounds}

-- a position is not behind an upper bound, where there is one
abbrev pub ends_by : Option (List ℕ) → List ℕ → Bool
ends_by None position = true
ends_by (Some end) position = not_after position end

-- a position is not before a lower bound, where it can be reached at all
abbrev pub starts_after : Option (List ℕ) → List ℕ → Bool
starts_after None position = false
starts_after (Some start) position = not_after start position

-- the item at a path lies between the bounds
abbrev pub is_within : Bounds → List ℕ → Bool
is_within bounds path = not_after bounds.start.now path && ends_by (option_copied bounds.end) (behind path)

-- the same, where there may be no bounds, between which nothing lies
abbrev pub is_within_some : Option Bounds → List ℕ → Bool
is_within_some None path = false
is_within_some (Some bounds) path = is_within bounds path

-- one of so many numbers, from one on, passes a test
abbrev pub any_from : (ℕ → Bool) → ℕ → ℕ → Bool
any_from test index zero = false
any_from test index (suc count) = test index || any_from test (index + 1) count

-- the attributes of the first character, among items with their paths, whose path passes a test
abbrev pub first_passing : (List ℕ → Bool) → List (List ℕ × Item) → Option Attributes
first_passing test entries = option_and_then (λ entry. of_character entry.1) (find (λ entry. is_character entry.1 && test entry.0) entries)

-- The attributes of the first character between bounds, among items of one element and all that is in them. The bounds are as that element
-- sees them, and the first of the items has this index there.
unfoldable pub first_from : Bounds → ℕ → List Item → Option Attributes
first_from bounds index items = first_passing (is_within bounds) (walk_inner [] index (items_of items))
