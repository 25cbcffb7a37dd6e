-- Reading a form from a JSON value (RFC 8259). What breaks the form first is refused with its path: `/` and the field's name or the index,
-- from the outside in.
use Rattle.std.specs.Prelude.{◌≡◌, ◌≢◌, ℕ, ◌+◌, ◌^◌, List, [], ◌∷◌, ◌++◌, Bool, false, nat_lt, Option, Some, None, Result, Ok, Err, if◌then◌else◌, length}
use Rattle.std.specs.Prelude.{option_and_then, ⊤}
use Rattle.std.specs.Str.{chars, is_utf8, bytes_eq}
use Rattle.std.specs.Fmt.{decimal}
use Rattle.std.specs.List.{list_any}
use Rattle.serde_json.specs.Data.{Data, object, Items, no_items, item, Members, no_members, member}
use Rattle.serde_json.specs.Find.{get, as_number, as_str, as_array, as_object, as_u64}
use Rattle.serde_json.specs.Read.{read}
use Rattle.json_forms.specs.declared.fault.FormFault.{FormFault}
use Rattle.json_forms.specs.declared.fault.FormFault.TheVariants.{NotJson, BadField, NoMemory}

infixl 10 ◌>>=◌
-- what is read next, unless a fault came before
abbrev pub ◌>>=◌ : {A B : Type 0} → Result A FormFault → (A → Result B FormFault) → Result B FormFault
(Ok x) >>= f = f x
(Err e) >>= f = Err e

-- What a reader answers, seen by view, is what reading gives, unless memory runs out.
abbrev pub Reads : {X Y : Type 0} → (X → Y) → Result X FormFault → Result Y FormFault → Type 0
Reads view (Ok x) reading = reading ≡ Ok (view x)
Reads view (Err fault) reading = fault ≢ NoMemory → reading ≡ Err fault

-- the path of a field. (After the JSON Pointers of RFC 6901, but that nothing is escaped.)
abbrev pub field_path : List ℕ → List ℕ → List ℕ
field_path path name = path ++ 47 ∷ chars name

-- the path of a member of a list, by its index from 0
abbrev pub index_path : List ℕ → ℕ → List ℕ
index_path path index = path ++ 47 ∷ decimal index

-- what was found, or the place that breaks the form
abbrev pub or_bad : {A : Type 0} → List ℕ → Option A → Result A FormFault
or_bad path None = Err (BadField path)
or_bad path (Some x) = Ok x

-- the value that was read, if the text has one
abbrev pub or_not_json : Option Data → Result Data FormFault
or_not_json None = Err NotJson
or_not_json (Some d) = Ok d

-- the JSON value of a line: bytes that aren't UTF-8, bad syntax and nesting deeper than 127 have none
unfoldable pub json_of : List ℕ → Result Data FormFault
json_of line = if is_utf8 line then or_not_json (read line) else Err NotJson

-- an object, whose fields are then read
unfoldable pub object_at : List ℕ → Data → Result ⊤ FormFault
object_at path (object fields) = Ok tt
object_at path other = Err (BadField path)

-- a field that has to be there
unfoldable pub field_at : List ℕ → List ℕ → Data → Result Data FormFault
field_at path name d = or_bad (field_path path name) (get name d)

-- a field that is a text, as UTF-8
unfoldable pub text_field : List ℕ → List ℕ → Data → Result (List ℕ) FormFault
text_field path name d = or_bad (field_path path name) (option_and_then as_str (get name d))

-- a number from 0 to 4294967295
abbrev pub offset_of : Data → Option ℕ
offset_of d = option_and_then (λ n. if nat_lt n (2 ^ 32) then Some n else None) (option_and_then as_u64 (as_number d))

-- such numbers, from this index of a list on
unfoldable pub offsets_at : List ℕ → ℕ → Items → Result (List ℕ) FormFault
offsets_at path index no_items = Ok []
offsets_at path index (item d rest) = do
  n ← or_bad (index_path path index) (offset_of d)
  more ← offsets_at path (index + 1) rest
  Ok (n ∷ more)

-- a position has 1 to 65 numbers
abbrev pub is_position_length : List ℕ → Bool
is_position_length [] = false
is_position_length (n ∷ numbers) = nat_lt (length numbers) 65

-- numbers that are enough for a position and not too many, or the place of the list
unfoldable pub position_length_at : List ℕ → List ℕ → Result (List ℕ) FormFault
position_length_at path numbers = if is_position_length numbers then Ok numbers else Err (BadField path)

-- a position: its numbers are tested in order, then their number
unfoldable pub position_field : List ℕ → List ℕ → Data → Result (List ℕ) FormFault
position_field path name d = do
  items ← or_bad (field_path path name) (option_and_then as_array (get name d))
  numbers ← offsets_at (field_path path name) 0 items
  position_length_at (field_path path name) numbers

-- the first member, in the order of the keys' bytes, whose key isn't among the names
abbrev pub first_other : List (List ℕ) → Members → Option (List ℕ)
first_other names no_members = None
first_other names (member key d rest) = if list_any (λ name. bytes_eq name key) names then first_other names rest else Some key

-- a fault of this field, if there is one
abbrev pub refused_field : List ℕ → Option (List ℕ) → Result ⊤ FormFault
refused_field path None = Ok tt
refused_field path (Some key) = Err (BadField (field_path path key))

-- no field but these
unfoldable pub only_fields : List ℕ → List (List ℕ) → Data → Result ⊤ FormFault
only_fields path names d = refused_field path (option_and_then (first_other names) (as_object d))

-- a field that is a text of a given wording
unfoldable pub word_field : List ℕ → List ℕ → List ℕ → Data → Result ⊤ FormFault
word_field path name word d = do
  text ← text_field path name d
  if bytes_eq text word then Ok tt else Err (BadField (field_path path name))
