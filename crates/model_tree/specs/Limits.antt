-- The limits on a tree, and what a change leaves.
use Rattle.std.specs.Prelude.{ℕ, ◌<◌, ◌≤◌, ◌^◌, List, [], ◌∷◌, Option, None, IfSome, option_map, option_and_then, nat_lt, if◌then◌else◌}
use Rattle.item_definitions.specs.Item.{Item, count_of, depth_of}
use Rattle.item_definitions.specs.Children.{parent_of, offset_of, at}
use Rattle.operation_definitions.specs.Level.{put_in, take_out, rename_at, split_at, merge_at}
use Rattle.operation_definitions.specs.After.{shell_of, room_at}
use Rattle.item_definitions.specs.Shift.{carry_remove}

-- fewer than 2^32 items, at most 64 levels deep
pub record IsTree (items : List Item) : Type 0 where
  pub few : count_of items < 2 ^ 32
  pub flat : depth_of items ≤ 64

-- the items after a change: None where it fails
abbrev pub changed : {R : Type 0} → Option (List Item × R) → Option (List Item)
changed made = option_map (λ both. both.0) made

-- where there are items, they keep to the limits
abbrev pub StaysTree : Option (List Item) → Type 0
StaysTree made = IfSome made IsTree

-- the element at a path with this name, and the name that it had: None for the empty path, which is the root's, and where no element stands
abbrev pub renamed_at : List ℕ → List ℕ → List Item → Option (List Item × List ℕ)
renamed_at [] name items = None
renamed_at (index ∷ path) name items = at (parent_of (index ∷ path)) (rename_at (offset_of (index ∷ path)) name) items

-- the element at a path split at an offset, with this element for what is behind: None for the empty path, and where no such place is
abbrev pub split_path : List ℕ → ℕ → Item → List Item → Option (List Item × Item)
split_path [] offset shell items = None
split_path (index ∷ path) offset shell items = at (parent_of (index ∷ path)) (split_at (offset_of (index ∷ path)) offset (λ _. shell)) items

-- the same with the one element without children that a list is
abbrev pub split_with : List ℕ → ℕ → List Item → List Item → Option (List Item × Item)
split_with path offset shells items = option_and_then (λ shell. split_path path offset shell items) (shell_of shells)

-- the element at a path merged into the one before it; it gives the element without its items. None where there is no such pair
abbrev pub merged : List ℕ → List Item → Option (List Item × List Item)
merged path items = if nat_lt 0 (offset_of path)
    then option_map (λ made. (made.0, made.1.0 ∷ [])) (at (parent_of path) (merge_at (offset_of path)) items) else None

-- The items with `count` of them, those behind a position, moved to another position; both are read before the move. None where the run
-- or the target isn't there.
abbrev pub moved : List ℕ → ℕ → List ℕ → List Item → Option (List Item)
moved from count to items =
    option_and_then (λ taken. option_and_then
    (λ _. changed (at (parent_of (carry_remove from count to)) (put_in (offset_of (carry_remove from count to)) taken.1) taken.0)) (room_at items to))
    (at (parent_of from) (take_out (offset_of from) count) items)
