-- Reading attribute values, attributes, positions and paths from a JSON value.
use Rattle.std.specs.Prelude.{ℕ, List, [], Bool, true, false, Option, Some, None, Result, Ok, Err, if◌then◌else◌, is_some, option_and_then, option_map}
use Rattle.std.specs.Str.{chars}
use Rattle.serde_json.specs.Data.{Data, null, boolean, number, string, array, object, Items, no_items, item, Members, no_members, member}
use Rattle.serde_json.specs.Find.{get, as_null, as_array, as_object, as_i64}
use Rattle.ck_base.specs.Name.{is_name}
use Rattle.ck_base.specs.Text.{is_within_text_limit}
use Rattle.ck_base.specs.declared.value.Value.{Value as AttributeValue}
use Rattle.ck_base.specs.declared.value.Value.TheVariants.{Whole, Truth, Text}
use Rattle.ck_base.specs.Entries.{with_value}
use Rattle.json_forms.specs.declared.fault.FormFault.{FormFault}
use Rattle.json_forms.specs.declared.fault.FormFault.TheVariants.{BadField}
use Rattle.json_forms.specs.Form.{◌>>=◌, or_bad, position_field, field_path}

-- a text that keeps the limit on attribute texts
abbrev pub kept_text : List ℕ → Option AttributeValue
kept_text text = if is_within_text_limit text then Some (Text (chars text)) else None

-- a truth value, a text within the limit, or a whole number of 64 bits
abbrev pub value_of : Data → Option AttributeValue
value_of null = None
value_of (boolean truth) = Some (Truth truth)
value_of (number n) = option_map Whole (as_i64 n)
value_of (string text) = kept_text text
value_of (array list) = None
value_of (object fields) = None

-- a value at this place
unfoldable pub value_at : List ℕ → Data → Result AttributeValue FormFault
value_at path d = or_bad path (value_of d)

-- a field that is a value
unfoldable pub value_field : List ℕ → List ℕ → Data → Result AttributeValue FormFault
value_field path name d = or_bad (field_path path name) (option_and_then value_of (get name d))

-- a value, or null for none
unfoldable pub nullable_at : List ℕ → Data → Result (Option AttributeValue) FormFault
nullable_at path d = if is_some (as_null d) then Ok None else value_at path d >>= λ value. Ok (Some value)

-- a field that is a value or null
unfoldable pub nullable_field : List ℕ → List ℕ → Data → Result (Option AttributeValue) FormFault
nullable_field path name d = or_bad (field_path path name) (get name d) >>= nullable_at (field_path path name)

-- the value of a key, which has to be a name
unfoldable pub attribute_at : List ℕ → List ℕ → Data → Result AttributeValue FormFault
attribute_at path key d = if is_name key then value_at (field_path path key) d else Err (BadField (field_path path key))

-- attributes with those of an object, in the order of its keys
unfoldable pub attributes_from : List ℕ → List (List ℕ × AttributeValue) → Members → Result (List (List ℕ × AttributeValue)) FormFault
attributes_from path made no_members = Ok made
attributes_from path made (member key d rest) = attribute_at path key d >>= λ value. attributes_from path (with_value key value made) rest

-- a field that is an object of names to values; where it isn't there, there are none
unfoldable pub attributes_field : List ℕ → List ℕ → Data → Result (List (List ℕ × AttributeValue)) FormFault
attributes_field path name d = attributes_if (get name d) where
  members_if : Option Members → Result (List (List ℕ × AttributeValue)) FormFault
  members_if None = Err (BadField (field_path path name))
  members_if (Some members) = attributes_from (field_path path name) [] members

  attributes_if : Option Data → Result (List (List ℕ × AttributeValue)) FormFault
  attributes_if None = Ok []
  attributes_if (Some found) = members_if (as_object found)

-- a list without members
abbrev pub is_empty_list : Option Items → Bool
is_empty_list None = false
is_empty_list (Some no_items) = true
is_empty_list (Some (item d rest)) = false

-- a field that is a path: the empty list, or as a position
unfoldable pub path_field : List ℕ → List ℕ → Data → Result (List ℕ) FormFault
path_field path name d = if is_empty_list (option_and_then as_array (get name d)) then Ok [] else position_field path name d
