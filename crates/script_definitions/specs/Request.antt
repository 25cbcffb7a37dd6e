-- What a script line asks for. A line is an object with the field `do`:
--     {"do":"change","edits":[EDIT,..]}
--     {"do":"selectView","anchor":PLACE,"focus":PLACE}
--     {"do":"show","selection":TRUTH}
-- `selection` is optional, and true where it isn't there.
-- An object is tested field by field in that order, and then for fields that aren't named.
use Rattle.std.specs.Prelude.{ℕ, List, [], ◌∷◌, true, Result, Ok, Err, if◌then◌else◌, codes, option_and_then, unwrap_or}
use Rattle.std.specs.Str.{bytes_eq}
use Rattle.serde_json.specs.Data.{Data}
use Rattle.serde_json.specs.Find.{get, as_array}
use Rattle.json_forms.specs.declared.fault.FormFault.{FormFault}
use Rattle.json_forms.specs.declared.fault.FormFault.TheVariants.{BadField}
use Rattle.json_forms.specs.Form.{◌>>=◌, or_bad, json_of, object_at, text_field, only_fields, field_path}
use Rattle.json_names.specs.Names.{optional_truth}
use Rattle.script_definitions.specs.declared.request.Request.{Request}
use Rattle.script_definitions.specs.declared.request.Request.TheVariants.{Change, SelectView, Show}
use Rattle.script_definitions.specs.Edits.{edits_at}
use Rattle.script_definitions.specs.Places.{place_field}

-- a change, which may have no edit
unfoldable pub change_of : Data → Result Request FormFault
change_of d = do
  items ← or_bad (field_path [] (codes "edits")) (option_and_then as_array (get (codes "edits") d))
  edits ← edits_at (field_path [] (codes "edits")) 0 items
  _ ← only_fields [] (codes "do" ∷ codes "edits" ∷ []) d
  Ok (Change edits)

-- a selection by two places of the view
unfoldable pub select_view_of : Data → Result Request FormFault
select_view_of d = do
  anchor ← place_field [] (codes "anchor") d
  focus ← place_field [] (codes "focus") d
  _ ← only_fields [] (codes "do" ∷ codes "anchor" ∷ codes "focus" ∷ []) d
  Ok (SelectView anchor focus)

-- a show, with a selection or without
unfoldable pub show_of : Data → Result Request FormFault
show_of d = do
  selection ← optional_truth [] (codes "selection") d
  _ ← only_fields [] (codes "do" ∷ codes "selection" ∷ []) d
  Ok (Show (unwrap_or selection true))

-- the form that the field `do` names
unfoldable pub form_of : List ℕ → Data → Result Request FormFault
form_of kind d = if bytes_eq kind (codes "change") then change_of d
    else (if bytes_eq kind (codes "selectView") then select_view_of d
    else (if bytes_eq kind (codes "show") then show_of d
    else Err (BadField (field_path [] (codes "do")))))

-- the request of a line
unfoldable pub request_of : List ℕ → Result Request FormFault
request_of line = do
  d ← json_of line
  _ ← object_at [] d
  kind ← text_field [] (codes "do") d
  form_of kind d
