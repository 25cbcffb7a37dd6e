-- A place of the view, as a script gives it: a list of whole numbers, the last an offset and those before it the path to a node. The numbers
-- are tested in order, and then whether there is one.
use Rattle.std.specs.Prelude.{ℕ, ◌+◌, List, [], ◌∷◌, Option, Some, None, Result, Ok, option_and_then, option_map}
use Rattle.serde_json.specs.Data.{Data, Items, no_items, item}
use Rattle.serde_json.specs.Find.{get, as_array, as_number, as_u64}
use Rattle.json_forms.specs.declared.fault.FormFault.{FormFault}
use Rattle.json_forms.specs.Form.{◌>>=◌, or_bad, field_path, index_path}
use Rattle.view_tree.specs.declared.path.ViewPlace.{ViewPlace}

-- numbers of 64 bits, from this index of a list on
unfoldable pub numbers_at : List ℕ → ℕ → Items → Result (List ℕ) FormFault
numbers_at path index no_items = Ok []
numbers_at path index (item d rest) = do
  n ← or_bad (index_path path index) (option_and_then as_u64 (as_number d))
  more ← numbers_at path (index + 1) rest
  Ok (n ∷ more)

-- the place of these numbers
abbrev pub place_of : List ℕ → Option ViewPlace
place_of [] = None
place_of (offset ∷ []) = Some (record { path = []; offset = offset })
place_of (index ∷ next ∷ numbers) = option_map (λ place. record { path = index ∷ place.path; offset = place.offset }) (place_of (next ∷ numbers))

-- a field that is such a place
unfoldable pub place_field : List ℕ → List ℕ → Data → Result ViewPlace FormFault
place_field path name d = do
  items ← or_bad (field_path path name) (option_and_then as_array (get name d))
  numbers ← numbers_at (field_path path name) 0 items
  or_bad (field_path path name) (place_of numbers)
