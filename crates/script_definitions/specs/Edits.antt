-- The edits of a script, with the first place that breaks their form. An edit is an object with the field `edit`, which names it, and
-- behind it these fields, of which those in brackets may be left out:
--     insertText: at, text, [attributes]             insertElement: at, name, [attributes]
--     remove: start, end                             move: start, end, to
--     setAttribute: start, end or path; key, value   removeAttribute: start, end or path; key
--     rename: path, name                             split: at
--     merge: at                                      wrap: start, end, name, [attributes]
--     unwrap: path                                   addMarker: name, start, end
--     updateMarker: name, start, end                 removeMarker: name
--     select: start, [end], [backward]               selectionAttribute: key, value or null
-- An object is tested field by field in that order, and then for fields that aren't named.
use Rattle.std.specs.Prelude.{ℕ, ◌+◌, List, [], ◌∷◌, false, ◌||◌, is_some, unwrap_or, Result, Ok, Err, if◌then◌else◌, codes}
use Rattle.std.specs.Str.{chars, bytes_eq}
use Rattle.serde_json.specs.Data.{Data, Items, no_items, item}
use Rattle.serde_json.specs.Find.{get}
use Rattle.json_forms.specs.declared.fault.FormFault.{FormFault}
use Rattle.json_forms.specs.declared.fault.FormFault.TheVariants.{BadField}
use Rattle.json_forms.specs.Form.{◌>>=◌, object_at, text_field, position_field, only_fields, field_path, index_path}
use Rattle.json_names.specs.Names.{name_field, optional_truth}
use Rattle.json_values.specs.Values.{value_field, nullable_field, attributes_field, path_field}
use Rattle.edit_definitions.specs.declared.edit.Edit.{Edit}
use Rattle.edit_definitions.specs.declared.edit.Edit.TheVariants.{InsertText, InsertElement, Remove, Move, SetAttribute, RemoveAttribute, Rename, Split, Merge}
use Rattle.edit_definitions.specs.declared.edit.Edit.TheVariants.{Wrap, Unwrap, AddMarker, UpdateMarker, RemoveMarker, Select, SelectionAttribute}
use Rattle.edit_definitions.specs.declared.edit.Target.{Target}
use Rattle.edit_definitions.specs.declared.edit.Target.TheVariants.{Range as InRange, Element as OfElement}

-- a text with attributes that comes in at a position (`Writer.insertText` of CKEditor 5)
unfoldable pub insert_text_at : List ℕ → Data → Result Edit FormFault
insert_text_at path d = do
  at ← position_field path (codes "at") d
  text ← text_field path (codes "text") d
  attributes ← attributes_field path (codes "attributes") d
  _ ← only_fields path (codes "edit" ∷ codes "at" ∷ codes "text" ∷ codes "attributes" ∷ []) d
  Ok (InsertText at (chars text) attributes)

-- an empty element that comes in at a position (`Writer.insertElement`)
unfoldable pub insert_element_at : List ℕ → Data → Result Edit FormFault
insert_element_at path d = do
  at ← position_field path (codes "at") d
  name ← name_field path (codes "name") d
  attributes ← attributes_field path (codes "attributes") d
  _ ← only_fields path (codes "edit" ∷ codes "at" ∷ codes "name" ∷ codes "attributes" ∷ []) d
  Ok (InsertElement at name attributes)

-- a range whose items go (`Writer.remove`)
unfoldable pub remove_at : List ℕ → Data → Result Edit FormFault
remove_at path d = do
  start ← position_field path (codes "start") d
  end ← position_field path (codes "end") d
  _ ← only_fields path (codes "edit" ∷ codes "start" ∷ codes "end" ∷ []) d
  Ok (Remove start end)

-- a range whose items go to a position (`Writer.move`)
unfoldable pub move_at : List ℕ → Data → Result Edit FormFault
move_at path d = do
  start ← position_field path (codes "start") d
  end ← position_field path (codes "end") d
  to ← position_field path (codes "to") d
  _ ← only_fields path (codes "edit" ∷ codes "start" ∷ codes "end" ∷ codes "to" ∷ []) d
  Ok (Move start end to)

-- the ends of a range
unfoldable pub range_target_at : List ℕ → Data → Result Target FormFault
range_target_at path d = do
  start ← position_field path (codes "start") d
  end ← position_field path (codes "end") d
  Ok (InRange start end)

-- the path of an element, beside which no end of a range may stand
unfoldable pub element_target_at : List ℕ → Data → Result Target FormFault
element_target_at path d = if is_some (get (codes "start") d) || is_some (get (codes "end") d) then Err (BadField (field_path path (codes "path")))
    else path_field path (codes "path") d >>= λ element. Ok (OfElement element)

-- an element by its path where that is there, else a range by its ends
unfoldable pub target_at : List ℕ → Data → Result Target FormFault
target_at path d = if is_some (get (codes "path") d) then element_target_at path d else range_target_at path d

-- items that get a value of a key (`Writer.setAttribute`)
unfoldable pub set_attribute_at : List ℕ → Data → Result Edit FormFault
set_attribute_at path d = do
  target ← target_at path d
  key ← name_field path (codes "key") d
  value ← value_field path (codes "value") d
  _ ← only_fields path (codes "edit" ∷ codes "start" ∷ codes "end" ∷ codes "path" ∷ codes "key" ∷ codes "value" ∷ []) d
  Ok (SetAttribute target key value)

-- items that lose the value of a key (`Writer.removeAttribute`)
unfoldable pub remove_attribute_at : List ℕ → Data → Result Edit FormFault
remove_attribute_at path d = do
  target ← target_at path d
  key ← name_field path (codes "key") d
  _ ← only_fields path (codes "edit" ∷ codes "start" ∷ codes "end" ∷ codes "path" ∷ codes "key" ∷ []) d
  Ok (RemoveAttribute target key)

-- an element that gets another name (`Writer.rename`)
unfoldable pub rename_at : List ℕ → Data → Result Edit FormFault
rename_at path d = do
  element ← path_field path (codes "path") d
  name ← name_field path (codes "name") d
  _ ← only_fields path (codes "edit" ∷ codes "path" ∷ codes "name" ∷ []) d
  Ok (Rename element name)

-- an element that is split at a position in it (`Writer.split`)
unfoldable pub split_at : List ℕ → Data → Result Edit FormFault
split_at path d = do
  at ← position_field path (codes "at") d
  _ ← only_fields path (codes "edit" ∷ codes "at" ∷ []) d
  Ok (Split at)

-- two elements that are merged at the position between them (`Writer.merge`)
unfoldable pub merge_at : List ℕ → Data → Result Edit FormFault
merge_at path d = do
  at ← position_field path (codes "at") d
  _ ← only_fields path (codes "edit" ∷ codes "at" ∷ []) d
  Ok (Merge at)

-- a range whose items go into a new element (`Writer.wrap`)
unfoldable pub wrap_at : List ℕ → Data → Result Edit FormFault
wrap_at path d = do
  start ← position_field path (codes "start") d
  end ← position_field path (codes "end") d
  name ← name_field path (codes "name") d
  attributes ← attributes_field path (codes "attributes") d
  _ ← only_fields path (codes "edit" ∷ codes "start" ∷ codes "end" ∷ codes "name" ∷ codes "attributes" ∷ []) d
  Ok (Wrap start end name attributes)

-- an element in whose place its items go (`Writer.unwrap`)
unfoldable pub unwrap_at : List ℕ → Data → Result Edit FormFault
unwrap_at path d = do
  element ← path_field path (codes "path") d
  _ ← only_fields path (codes "edit" ∷ codes "path" ∷ []) d
  Ok (Unwrap element)

-- a new marker with its range (`Writer.addMarker`)
unfoldable pub add_marker_at : List ℕ → Data → Result Edit FormFault
add_marker_at path d = do
  name ← name_field path (codes "name") d
  start ← position_field path (codes "start") d
  end ← position_field path (codes "end") d
  _ ← only_fields path (codes "edit" ∷ codes "name" ∷ codes "start" ∷ codes "end" ∷ []) d
  Ok (AddMarker name start end)

-- a marker that gets another range (`Writer.updateMarker`)
unfoldable pub update_marker_at : List ℕ → Data → Result Edit FormFault
update_marker_at path d = do
  name ← name_field path (codes "name") d
  start ← position_field path (codes "start") d
  end ← position_field path (codes "end") d
  _ ← only_fields path (codes "edit" ∷ codes "name" ∷ codes "start" ∷ codes "end" ∷ []) d
  Ok (UpdateMarker name start end)

-- a marker that goes (`Writer.removeMarker`)
unfoldable pub remove_marker_at : List ℕ → Data → Result Edit FormFault
remove_marker_at path d = do
  name ← name_field path (codes "name") d
  _ ← only_fields path (codes "edit" ∷ codes "name" ∷ []) d
  Ok (RemoveMarker name)

-- the end of a selection: where it isn't there, the start
unfoldable pub end_or : List ℕ → List ℕ → Data → Result (List ℕ) FormFault
end_or path start d = if is_some (get (codes "end") d) then position_field path (codes "end") d else Ok start

-- a selection by its start, its end and its direction (`Writer.setSelection`)
unfoldable pub select_at : List ℕ → Data → Result Edit FormFault
select_at path d = do
  start ← position_field path (codes "start") d
  end ← end_or path start d
  backward ← optional_truth path (codes "backward") d
  _ ← only_fields path (codes "edit" ∷ codes "start" ∷ codes "end" ∷ codes "backward" ∷ []) d
  Ok (Select start end (unwrap_or backward false))

-- a value that the selection overrides a key with, or none (`Writer.setSelectionAttribute`, `removeSelectionAttribute`)
unfoldable pub selection_attribute_at : List ℕ → Data → Result Edit FormFault
selection_attribute_at path d = do
  key ← name_field path (codes "key") d
  value ← nullable_field path (codes "value") d
  _ ← only_fields path (codes "edit" ∷ codes "key" ∷ codes "value" ∷ []) d
  Ok (SelectionAttribute key value)

-- the edits of markers and of the selection, by their names
unfoldable pub beside_edit_of : List ℕ → List ℕ → Data → Result Edit FormFault
beside_edit_of kind path d = if bytes_eq kind (codes "addMarker") then add_marker_at path d
    else (if bytes_eq kind (codes "updateMarker") then update_marker_at path d
    else (if bytes_eq kind (codes "removeMarker") then remove_marker_at path d
    else (if bytes_eq kind (codes "select") then select_at path d
    else (if bytes_eq kind (codes "selectionAttribute") then selection_attribute_at path d
    else Err (BadField (field_path path (codes "edit")))))))

-- the edits of elements
unfoldable pub element_edit_of : List ℕ → List ℕ → Data → Result Edit FormFault
element_edit_of kind path d = if bytes_eq kind (codes "rename") then rename_at path d
    else (if bytes_eq kind (codes "split") then split_at path d
    else (if bytes_eq kind (codes "merge") then merge_at path d
    else (if bytes_eq kind (codes "wrap") then wrap_at path d
    else (if bytes_eq kind (codes "unwrap") then unwrap_at path d
    else beside_edit_of kind path d))))

-- the edits of items
unfoldable pub edit_of : List ℕ → List ℕ → Data → Result Edit FormFault
edit_of kind path d = if bytes_eq kind (codes "insertText") then insert_text_at path d
    else (if bytes_eq kind (codes "insertElement") then insert_element_at path d
    else (if bytes_eq kind (codes "remove") then remove_at path d
    else (if bytes_eq kind (codes "move") then move_at path d
    else (if bytes_eq kind (codes "setAttribute") then set_attribute_at path d
    else (if bytes_eq kind (codes "removeAttribute") then remove_attribute_at path d
    else element_edit_of kind path d)))))

-- an edit at this place
unfoldable pub edit_at : List ℕ → Data → Result Edit FormFault
edit_at path d = do
  _ ← object_at path d
  kind ← text_field path (codes "edit") d
  edit_of kind path d

-- edits, from this index of a list on
unfoldable pub edits_at : List ℕ → ℕ → Items → Result (List Edit) FormFault
edits_at path index no_items = Ok []
edits_at path index (item d rest) = do
  edit ← edit_at (index_path path index) d
  more ← edits_at path (index + 1) rest
  Ok (edit ∷ more)
