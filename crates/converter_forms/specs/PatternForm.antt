-- The patterns of a settings file, with the first place that breaks their form. A pattern is a text or {"from":KEY}, and where the index of an
-- element may be asked for also {"index":COUNT}. View attributes are an object of names, each with a pattern or with a text. (After the
-- `attributes` of CKEditor 5's element definitions.)
use Rattle.std.specs.Prelude.{ℕ, List, [], ◌∷◌, Bool, ◌&&◌, is_some, option_map, Option, Some, None, Result, Ok, Err, if◌then◌else◌, codes}
use Rattle.std.specs.Str.{chars}
use Rattle.serde_json.specs.Data.{Data, Members, no_members, member}
use Rattle.serde_json.specs.Find.{get, as_str, as_object}
use Rattle.ck_base.specs.Name.{is_name}
use Rattle.ck_base.specs.Entries.{with_value}
use Rattle.json_forms.specs.declared.fault.FormFault.{FormFault}
use Rattle.json_forms.specs.declared.fault.FormFault.TheVariants.{BadField}
use Rattle.json_forms.specs.Form.{◌>>=◌, or_bad, object_at, only_fields, field_path}
use Rattle.json_names.specs.Names.{name_field, count_field}
use Rattle.view_definitions.specs.Node.{ViewAttributes}
use Rattle.converter_definitions.specs.declared.pattern.Pattern.{Pattern}
use Rattle.converter_definitions.specs.declared.pattern.Pattern.TheVariants.{Text, From, Index}
use Rattle.converter_definitions.specs.Pattern.{Patterns}

-- the pattern of an attribute's value, `{"from":KEY}`
unfoldable pub from_pattern : List ℕ → Data → Result Pattern FormFault
from_pattern path d = do
  key ← name_field path (codes "from") d
  _ ← only_fields path (codes "from" ∷ []) d
  Ok (From key)

-- the number that is added to the index is at most 1000000
unfoldable pub index_pattern : List ℕ → Data → Result Pattern FormFault
index_pattern path d = do
  base ← count_field path (codes "index") 0 1000000 d
  _ ← only_fields path (codes "index" ∷ []) d
  Ok (Index base)

-- exactly one of `from` and `index`: both or none is refused at `from`. Where no index may be asked for, `from` alone
unfoldable pub object_pattern : Bool → List ℕ → Data → Result Pattern FormFault
object_pattern indexes path d = do
  _ ← object_at path d
  if indexes && is_some (get (codes "index") d)
      then (if is_some (get (codes "from") d) then Err (BadField (field_path path (codes "from"))) else index_pattern path d)
      else from_pattern path d

-- a pattern at this place
unfoldable pub pattern_at : Bool → List ℕ → Data → Result Pattern FormFault
pattern_at indexes path d = pattern_if (as_str d) where
  pattern_if : Option (List ℕ) → Result Pattern FormFault
  pattern_if (Some text) = Ok (Text (chars text))
  pattern_if None = object_pattern indexes path d

-- the pattern of a key, which has to be a name
unfoldable pub key_pattern_at : Bool → List ℕ → List ℕ → Data → Result Pattern FormFault
key_pattern_at indexes path key d = if is_name key then pattern_at indexes (field_path path key) d else Err (BadField (field_path path key))

-- the patterns of an object, in the order of its keys
unfoldable pub patterns_from : Bool → List ℕ → Members → Result Patterns FormFault
patterns_from indexes path no_members = Ok []
patterns_from indexes path (member key d rest) = do
  pattern ← key_pattern_at indexes path key d
  more ← patterns_from indexes path rest
  Ok ((key, pattern) ∷ more)

-- a field that is an object of names to patterns; where it isn't there, there are none
unfoldable pub patterns_field : Bool → List ℕ → List ℕ → Data → Result Patterns FormFault
patterns_field indexes path name d = patterns_if (get name d) where
  patterns_if : Option Data → Result Patterns FormFault
  patterns_if None = Ok []
  patterns_if (Some found) = or_bad (field_path path name) (as_object found) >>= patterns_from indexes (field_path path name)

-- the text of a key, which has to be a name
unfoldable pub key_text_at : List ℕ → List ℕ → Data → Result (List ℕ) FormFault
key_text_at path key d = if is_name key then or_bad (field_path path key) (option_map chars (as_str d)) else Err (BadField (field_path path key))

-- texts with those of an object, in the order of its keys
unfoldable pub texts_from : List ℕ → ViewAttributes → Members → Result ViewAttributes FormFault
texts_from path made no_members = Ok made
texts_from path made (member key d rest) = key_text_at path key d >>= λ text. texts_from path (with_value key text made) rest

-- a field that is an object of names to texts; where it isn't there, there are none
unfoldable pub texts_field : List ℕ → List ℕ → Data → Result ViewAttributes FormFault
texts_field path name d = texts_if (get name d) where
  texts_if : Option Data → Result ViewAttributes FormFault
  texts_if None = Ok []
  texts_if (Some found) = or_bad (field_path path name) (as_object found) >>= texts_from (field_path path name) []
