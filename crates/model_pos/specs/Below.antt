-- Ranges and counts in an element, as the whole tree sees them.
use Rattle.std.specs.Prelude.{ℕ, List, ◌++◌, Option}
use Rattle.item_definitions.specs.Position.{Range, between}

-- a range in the element at a path
abbrev pub below : List ℕ → Range → Range
below above range = between (above ++ range.start) (above ++ range.end)

-- how many items the elements in the element at a path have
abbrev pub counts_below : List ℕ → (List ℕ → Option ℕ) → List ℕ → Option ℕ
counts_below above counts path = counts (above ++ path)
