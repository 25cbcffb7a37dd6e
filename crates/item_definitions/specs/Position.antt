-- Positions and ranges. A position is a path whose last number is an offset between the items of the parent that the others lead
-- to. (After `Position` and `Range` of CKEditor 5's model.)
use Rattle.std.specs.Prelude.{◌≡◌, ◌≢◌, ℕ, ◌+◌, ◌-◌, ◌≤◌, ◌<◌, List, [], ◌∷◌, ◌++◌, Bool, ◌&&◌, not, IsTrue, Option, IsSomeAnd}
use Rattle.std.specs.Ordering.{nat_cmp, is_le}
use Rattle.std.specs.Cmp.Lexicographic.{slice_cmp}
use Rattle.std.specs.declared.cmp.Ordering.{Ordering}
use Rattle.item_definitions.specs.Item.{Item}
use Rattle.item_definitions.specs.Children.{parent_of, offset_of, child_count}

-- document order: number by number, a proper prefix first. So the position before an element comes before all positions in it.
abbrev pub position_cmp : List ℕ → List ℕ → Ordering
position_cmp = slice_cmp nat_cmp

-- the first position is the second or comes before it
abbrev pub not_after : List ℕ → List ℕ → Bool
not_after position other = is_le (position_cmp position other)

-- the first position comes before the second
abbrev pub is_before : List ℕ → List ℕ → Bool
is_before position other = not (not_after other position)

-- from a start to an end that does not come before it
pub record Range : Type 0 where
  pub start : List ℕ
  pub end : List ℕ

-- the range between two positions
abbrev pub between : List ℕ → List ℕ → Range
between start end = record { start = start; end = end }

-- both ends have one parent
abbrev pub IsFlat : Range → Type 0
IsFlat range = parent_of range.start ≡ parent_of range.end

-- A position is in a tree of which the given function tells how many items the element at a path has: its numbers but the last lead
-- through elements, and the last is at most the number of items there.
abbrev pub IsPlace : (List ℕ → Option ℕ) → List ℕ → Type 0
IsPlace counts position = (position ≢ []) × IsSomeAnd (counts (parent_of position)) (λ count. offset_of position ≤ count)

-- an item stands at a path of such a tree
abbrev pub IsItem : (List ℕ → Option ℕ) → List ℕ → Type 0
IsItem counts path = (path ≢ []) × IsSomeAnd (counts (parent_of path)) (λ count. offset_of path < count)

-- both ends of a range are in such a tree
abbrev pub IsRange : (List ℕ → Option ℕ) → Range → Type 0
IsRange counts range = IsPlace counts range.start × IsPlace counts range.end × IsTrue (not_after range.start range.end)

-- a position is in a list of items
abbrev pub IsIn : List Item → List ℕ → Type 0
IsIn items position = IsPlace (child_count items) position

-- the position behind the item at a path
abbrev pub behind : List ℕ → List ℕ
behind [] = []
behind (offset ∷ []) = (offset + 1) ∷ []
behind (index ∷ next ∷ path) = index ∷ behind (next ∷ path)

-- the path of the item directly before a position in the same parent, where the position isn't at the parent's start
abbrev pub path_before : List ℕ → List ℕ
path_before position = parent_of position ++ (offset_of position - 1) ∷ []

-- the item at a path is in a range: the position before it is not before the start, and the one behind it not behind the end
abbrev pub holds : Range → List ℕ → Bool
holds range path = not_after range.start path && not_after (behind path) range.end
