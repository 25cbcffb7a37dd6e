-- How positions, paths, values and attributes are written in JSON (RFC 8259), and the limits that each kind of part keeps.
use Rattle.std.specs.Prelude.{ℕ, ◌^◌, ℤ, pos, negsuc, List, [], ◌∷◌, Bool, true, false, ◌&&◌, nat_lt, Option, Some, None, encode_utf8_all}
use Rattle.std.specs.Str.{is_utf8}
use Rattle.std.specs.List.{list_all}
use Rattle.std.specs.FinMap.{is_sorted}
use Rattle.std.specs.Str.{all_scalars}
use Rattle.serde_json.specs.Data.{Num, unsigned, negative, float, Data, null, boolean, number, string, array, object, Items, no_items, item, Members}
use Rattle.serde_json.specs.Data.{no_members, member}
use Rattle.serde_json.specs.Find.{of_integer}
use Rattle.ck_base.specs.Name.{is_name}
use Rattle.ck_base.specs.Text.{is_within_text_limit}
use Rattle.ck_base.specs.Entries.{name_cmp}
use Rattle.ck_base.specs.declared.value.Value.{Value as AttributeValue}
use Rattle.ck_base.specs.declared.value.Value.TheVariants.{Whole, Truth, Text}
use Rattle.json_forms.specs.Form.{is_position_length}

-- a list of whole numbers
abbrev pub numbers_items : List ℕ → Items
numbers_items [] = no_items
numbers_items (n ∷ numbers) = item (number (unsigned n)) (numbers_items numbers)

-- such a list, as a value
abbrev pub numbers_form : List ℕ → Data
numbers_form numbers = array (numbers_items numbers)

-- a text by its Unicode scalar values
abbrev pub text_form : List ℕ → Data
text_form text = string (encode_utf8_all text)

-- a whole number, a truth value or a text
abbrev pub value_form : AttributeValue → Data
value_form (Whole whole) = number (of_integer whole)
value_form (Truth truth) = boolean truth
value_form (Text text) = text_form text

-- a value, or null for none
abbrev pub nullable_form : Option AttributeValue → Data
nullable_form None = null
nullable_form (Some value) = value_form value

-- an object of names to values, in their order
abbrev pub attributes_members : List (List ℕ × AttributeValue) → Members
attributes_members [] = no_members
attributes_members (entry ∷ entries) = member entry.0 (value_form entry.1) (attributes_members entries)

-- such an object
abbrev pub attributes_form : List (List ℕ × AttributeValue) → Data
attributes_form attributes = object (attributes_members attributes)

-- ---- limits

-- a number of 32 bits
abbrev pub is_offset : ℕ → Bool
is_offset n = nat_lt n (2 ^ 32)

-- 1 to 65 such numbers
abbrev pub is_position : List ℕ → Bool
is_position numbers = is_position_length numbers && list_all is_offset numbers

-- no number, or such a position
abbrev pub is_path : List ℕ → Bool
is_path [] = true
is_path (n ∷ numbers) = is_position (n ∷ numbers)

-- a whole number of 64 bits
abbrev pub is_whole : ℤ → Bool
is_whole (pos n) = nat_lt n (2 ^ 63)
is_whole (negsuc n) = nat_lt n (2 ^ 63)

-- such a number, a truth value, or a text of at most 4,096 bytes of UTF-8
abbrev pub is_value : AttributeValue → Bool
is_value (Whole whole) = is_whole whole
is_value (Truth truth) = true
is_value (Text text) = all_scalars text && is_within_text_limit (encode_utf8_all text)

-- a value or none
abbrev pub is_nullable : Option AttributeValue → Bool
is_nullable None = true
is_nullable (Some value) = is_value value

-- a name with such a value
abbrev pub is_attribute : List ℕ × AttributeValue → Bool
is_attribute entry = is_name entry.0 && is_value entry.1

-- such values by names, in the order of the names, each once
abbrev pub are_attributes : List (List ℕ × AttributeValue) → Bool
are_attributes entries = is_sorted name_cmp entries && list_all is_attribute entries

-- ---- JSON values as the code holds them

-- a number of 64 bits below 0
abbrev pub is_negative : ℤ → Bool
is_negative (pos n) = false
is_negative (negsuc n) = nat_lt n (2 ^ 63)

-- a whole number that isn't negative, one of 64 bits below 0, or a float
abbrev pub is_number : Num → Bool
is_number (unsigned n) = true
is_number (negative whole) = is_negative whole
is_number (float x) = true

abbrev mutual
  -- each text is UTF-8, and each number is one
  pub is_json : Data → Bool
  is_json null = true
  is_json (boolean truth) = true
  is_json (number n) = is_number n
  is_json (string text) = is_utf8 text
  is_json (array items) = are_json items
  is_json (object members) = hold_json members

  -- the same of each member of a list
  pub are_json : Items → Bool
  are_json no_items = true
  are_json (item d items) = is_json d && are_json items

  -- the same of each member of an object
  pub hold_json : Members → Bool
  hold_json no_members = true
  hold_json (member key d members) = is_json d && hold_json members
