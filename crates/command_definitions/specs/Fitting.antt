-- The items whose attribute a toggle changes, and their longest runs.
use Rattle.std.specs.Prelude.{◌≡◌, ◌<◌, ◌≤◌, ℕ, ◌-◌, List, [], ◌∷◌, ◌++◌, map, filter, Bool, true, false, not, ◌&&◌, is_some, unwrap_or, slice_get}
use Rattle.std.specs.Option.{option_map_or}
use Rattle.std.specs.List.{range_with_len, prefix_len}
use Rattle.ck_base.specs.Entries.{value_of}
use Rattle.item_definitions.specs.Item.{Item, character, element, attributes_of}
use Rattle.item_definitions.specs.Children.{parent_of, offset_of, item_at, child_count, walk}
use Rattle.item_definitions.specs.Position.{Range, between, holds}
use Rattle.item_definitions.specs.Shift.{forward}
use Rattle.schema_definitions.specs.Allowed.{Rules, is_inline_object}
use Rattle.breach_definitions.specs.Breach.{item_name}
use Rattle.command_definitions.specs.Places.{allows_key, is_before_it}

-- a character, or an element that is an object in the text
abbrev pub is_in_text : Rules → Item → Bool
is_in_text rules (character scalar attributes) = true
is_in_text rules (element id name attributes children) = is_inline_object rules name

-- the item at a path is wholly in a range, stands in text, and may have a key
abbrev pub fits : Rules → List ℕ → List Item → Range → List ℕ → Bool
fits rules key items range path = holds range path
    && option_map_or (λ item. is_in_text rules item && allows_key rules items path (item_name item) key) (item_at path items) false

-- the paths of the fitting items, at any depth, in document order
abbrev pub fitting : Rules → List ℕ → List Item → Range → List (List ℕ)
fitting rules key items range = filter (fits rules key items range) (map (λ entry. entry.0) (walk items))

-- the item at a path has a key
abbrev pub has_key : List ℕ → List Item → List ℕ → Bool
has_key key items path = option_map_or (λ item. is_some (value_of key (attributes_of item))) (item_at path items) false

-- the first of some items has a key
abbrev pub first_has_key : List ℕ → List Item → List (List ℕ) → Bool
first_has_key key items paths = option_map_or (has_key key items) (slice_get paths 0) false

-- the paths of an item and of all that stand behind it in its parent
abbrev pub from_here_on : List Item → List ℕ → List (List ℕ)
from_here_on items path = map (λ offset. parent_of path ++ offset ∷ [])
    (range_with_len (offset_of path) (unwrap_or (child_count items (parent_of path)) 0 - offset_of path))

-- the run of items that begins with the one at a path: up to the first that doesn't pass the test
abbrev pub run_from : (List ℕ → Bool) → List Item → List ℕ → Range
run_from test items path = between path (forward (prefix_len test (from_here_on items path)) path)

-- The longest runs of neighbouring items of one parent that pass a test, out of the paths of all that do: one run begins with each of them
-- that has no such item directly before it. They are in the order of their starts.
abbrev pub longest_runs : (List ℕ → Bool) → List Item → List (List ℕ) → List Range
longest_runs test items paths = map (run_from test items) (filter (λ path. not (is_before_it test path)) paths)

-- A run of items of one parent that pass a test has an item, each of its items passes, and it can't be longer: the item before it doesn't pass, nor
-- does the one behind it.
pub record IsLongest (test : List ℕ → Bool) (items : List Item) (run : Range) : Type 0 where
  pub flat : parent_of run.end ≡ parent_of run.start
  pub some : offset_of run.start < offset_of run.end
  pub each : (offset : ℕ) → offset_of run.start ≤ offset → offset < offset_of run.end → test (parent_of run.start ++ offset ∷ []) ≡ true
  pub before : is_before_it test run.start ≡ false
  pub behind : offset_of run.end < unwrap_or (child_count items (parent_of run.start)) 0 → test run.end ≡ false
