-- Reading names, lists of names, truth values and numbers from a JSON value.
use Rattle.std.specs.Prelude.{ℕ, ◌+◌, List, [], ◌∷◌, Bool, ◌&&◌, nat_le, Option, Some, None, Result, Ok, if◌then◌else◌, option_and_then, option_map}
use Rattle.serde_json.specs.Data.{Data, array, Items, no_items, item}
use Rattle.serde_json.specs.Find.{get, as_str, as_array, as_bool, as_number, as_u64}
use Rattle.ck_base.specs.Name.{is_name}
use Rattle.json_forms.specs.declared.fault.FormFault.{FormFault}
use Rattle.json_forms.specs.Form.{◌>>=◌, or_bad, field_path, index_path}

-- a text that keeps the limit on names
abbrev pub kept_name : List ℕ → Option (List ℕ)
kept_name text = if is_name text then Some text else None

-- the name that a value is, if it is one
abbrev pub name_of : Data → Option (List ℕ)
name_of d = option_and_then kept_name (as_str d)

-- a value that is a name
unfoldable pub name_at : List ℕ → Data → Result (List ℕ) FormFault
name_at path d = or_bad path (name_of d)

-- a field that is a name
unfoldable pub name_field : List ℕ → List ℕ → Data → Result (List ℕ) FormFault
name_field path name d = or_bad (field_path path name) (option_and_then name_of (get name d))

-- names, from this index of a list on
unfoldable pub names_at : List ℕ → ℕ → Items → Result (List (List ℕ)) FormFault
names_at path index no_items = Ok []
names_at path index (item d rest) = do
  name ← name_at (index_path path index) d
  more ← names_at path (index + 1) rest
  Ok (name ∷ more)

-- a field that is a list of names
unfoldable pub name_list_field : List ℕ → List ℕ → Data → Result (List (List ℕ)) FormFault
name_list_field path name d = do
  items ← or_bad (field_path path name) (option_and_then as_array (get name d))
  names_at (field_path path name) 0 items

-- a name, or a list of names
unfoldable pub one_or_more : List ℕ → Data → Result (List (List ℕ)) FormFault
one_or_more path (array items) = names_at path 0 items
one_or_more path other = do
  name ← name_at path other
  Ok (name ∷ [])

-- a field that may be there, and is a name or a list of names
unfoldable pub names_field : List ℕ → List ℕ → Data → Result (List (List ℕ)) FormFault
names_field path name d = names_if (get name d) where
  names_if : Option Data → Result (List (List ℕ)) FormFault
  names_if None = Ok []
  names_if (Some found) = one_or_more (field_path path name) found

-- a field that may be there, and is a name
unfoldable pub optional_name : List ℕ → List ℕ → Data → Result (Option (List ℕ)) FormFault
optional_name path name d = name_if (get name d) where
  name_if : Option Data → Result (Option (List ℕ)) FormFault
  name_if None = Ok None
  name_if (Some found) = or_bad (field_path path name) (option_map Some (name_of found))

-- a field that is a truth value
unfoldable pub truth_field : List ℕ → List ℕ → Data → Result Bool FormFault
truth_field path name d = or_bad (field_path path name) (option_and_then as_bool (get name d))

-- a field that may be there, and is a truth value
unfoldable pub optional_truth : List ℕ → List ℕ → Data → Result (Option Bool) FormFault
optional_truth path name d = truth_if (get name d) where
  truth_if : Option Data → Result (Option Bool) FormFault
  truth_if None = Ok None
  truth_if (Some found) = or_bad (field_path path name) (option_map Some (as_bool found))

-- a whole number between two bounds
abbrev pub between : ℕ → ℕ → ℕ → Option ℕ
between least most count = if nat_le least count && nat_le count most then Some count else None

-- the whole number between two bounds that a value is, if it is one
abbrev pub count_of : ℕ → ℕ → Data → Option ℕ
count_of least most d = option_and_then (between least most) (option_and_then as_u64 (as_number d))

-- a field that is a whole number between two bounds
unfoldable pub count_field : List ℕ → List ℕ → ℕ → ℕ → Data → Result ℕ FormFault
count_field path name least most d = or_bad (field_path path name) (option_and_then (count_of least most) (get name d))

-- a field that may be there, and is such a number
unfoldable pub optional_count : List ℕ → List ℕ → ℕ → ℕ → Data → Result (Option ℕ) FormFault
optional_count path name least most d = count_if (get name d) where
  count_if : Option Data → Result (Option ℕ) FormFault
  count_if None = Ok None
  count_if (Some found) = or_bad (field_path path name) (option_map Some (count_of least most found))
