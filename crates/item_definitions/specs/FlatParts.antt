-- The minimal flat ranges that make up a range. (After `Range.getMinimalFlatRanges` of CKEditor 5's model.)
use Rattle.std.specs.Prelude.{◌≡◌, ℕ, ◌+◌, ◌≤◌, List, [], ◌∷◌, ◌++◌, map, length, Bool, nat_lt, ◌==◌, if◌then◌else◌, IsTrue, All, Option, unwrap_or}
use Rattle.std.specs.List.{list_any}
use Rattle.item_definitions.specs.Position.{Range, between, IsFlat, IsItem, not_after, is_before, holds}

-- the same range in the item at an index
abbrev pub under : ℕ → Range → Range
under index range = between (index ∷ range.start) (index ∷ range.end)

-- a tree as the function that tells how many items the element at a path has; the same of the item at an index
abbrev pub counts_under : ℕ → (List ℕ → Option ℕ) → List ℕ → Option ℕ
counts_under index counts path = counts (index ∷ path)

-- the items of one list from an offset up to another, if there are any
abbrev pub run : ℕ → ℕ → List Range
run from to = if nat_lt from to then between (from ∷ []) (to ∷ []) ∷ [] else []

-- the first offset that is wholly behind a position, which begins with the index and goes on by the path
abbrev pub next_offset : ℕ → List ℕ → ℕ
next_offset index [] = index
next_offset index (next ∷ path) = index + 1

-- all that stands behind a position, the innermost parent first
abbrev pub parts_behind : (List ℕ → Option ℕ) → List ℕ → List Range
parts_behind counts [] = []
parts_behind counts (index ∷ path) =
    map (under index) (parts_behind (counts_under index counts) path) ++ run (next_offset index path) (unwrap_or (counts []) 0)

-- all that stands before a position, the outermost parent first
abbrev pub parts_before : List ℕ → List Range
parts_before [] = []
parts_before (index ∷ path) = run 0 index ++ map (under index) (parts_before path)

-- What stands between two positions: in an item that both are in, what stands between them there. Else what stands behind the start
-- in the item that it is in, then the items between, then what stands before the end in the item that it is in.
abbrev pub parts_between : (List ℕ → Option ℕ) → List ℕ → List ℕ → List Range
parts_between counts [] end = parts_before end
parts_between counts (index ∷ path) [] = []
parts_between counts (index ∷ path) (last ∷ rest) =
    if index == last then map (under index) (parts_between (counts_under index counts) path rest)
    else map (under index) (parts_behind (counts_under index counts) path) ++ (run (next_offset index path) last ++ map (under last) (parts_before rest))

-- the minimal flat ranges of a range, in document order, empty ones left out
abbrev pub flat_parts : (List ℕ → Option ℕ) → Range → List Range
flat_parts counts range = parts_between counts range.start range.end

-- each of the ranges ends before the next one starts, or where it starts
abbrev pub IsInOrder : List Range → Type 0
IsInOrder [] = Unit {0}
IsInOrder (part ∷ parts) = All (λ later. IsTrue (not_after part.end later.start)) parts × IsInOrder parts

-- some of the ranges has the item at a path
abbrev pub any_holds : List Range → List ℕ → Bool
any_holds parts path = list_any (λ part. holds part path) parts

-- the ranges are flat, and have exactly the items of the range
pub record IsFlatCover (counts : List ℕ → Option ℕ) (range : Range) (parts : List Range) : Type 0 where
  pub flat : All IsFlat parts
  pub exact : (path : List ℕ) → IsItem counts path → any_holds parts path ≡ holds range path

-- they are also in order and apart, none is empty, and there are no fewer that have them
pub record IsMinimalCover (counts : List ℕ → Option ℕ) (range : Range) (parts : List Range) : Type 0 where
  pub cover : IsFlatCover counts range parts
  pub ordered : IsInOrder parts
  pub full : All (λ part. IsTrue (is_before part.start part.end)) parts
  pub fewest : (others : List Range) → IsFlatCover counts range others → length parts ≤ length others
