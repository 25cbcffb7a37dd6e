-- The markers of a document: each a name with a range. (After `MarkerCollection` of CKEditor 5's model.)
use Rattle.std.specs.Prelude.{ℕ, List, map, Option, Some, None}
use Rattle.std.specs.List.{filter}
use Rattle.std.specs.Map.{keys_of}
use Rattle.ck_base.specs.Entries.{with_value, without}
use Rattle.item_definitions.specs.Position.{Range, holds}
use Rattle.item_definitions.specs.Shift.{Shift, carry_range}

-- a finite map from names to ranges, as its pairs in the order of the names' bytes
abbrev pub Markers : Type 0
Markers = List (List ℕ × Range)

-- the names of the markers that cover the item at a path, in order: each starts not after the position before the item, and ends not
-- before the position behind it
abbrev pub covering : List ℕ → Markers → List (List ℕ)
covering path markers = keys_of (filter (λ marker. holds marker.1 path) markers)

-- each marker where its range goes when the tree changes
abbrev pub carried : Shift → Markers → Markers
carried shift markers = map (λ marker. (marker.0, carry_range shift marker.1)) markers

-- the marker of a name with this range, or without it
abbrev pub with_marker : List ℕ → Option Range → Markers → Markers
with_marker name None markers = without name markers
with_marker name (Some range) markers = with_value name range markers
