-- How an edit is written in a script, and the limits that its parts keep.
use Rattle.std.specs.Prelude.{ℕ, List, [], ◌∷◌, ◌++◌, Bool, false, ◌&&◌, codes}
use Rattle.std.specs.Str.{all_scalars}
use Rattle.serde_json.specs.Data.{Data, null, boolean, string, object, Items, no_items, item, Members, no_members, put}
use Rattle.ck_base.specs.Name.{is_name}
use Rattle.json_values.specs.Written.{numbers_form, text_form, value_form, nullable_form, attributes_form, is_position, is_path, is_value, is_nullable}
use Rattle.json_values.specs.Written.{are_attributes}
use Rattle.edit_definitions.specs.declared.edit.Edit.{Edit}
use Rattle.edit_definitions.specs.declared.edit.Edit.TheVariants.{InsertText, InsertElement, Remove, Move, SetAttribute, RemoveAttribute, Rename, Split, Merge}
use Rattle.edit_definitions.specs.declared.edit.Edit.TheVariants.{Wrap, Unwrap, AddMarker, UpdateMarker, RemoveMarker, Select, SelectionAttribute, InsertItems}
use Rattle.edit_definitions.specs.declared.edit.Target.{Target}
use Rattle.edit_definitions.specs.declared.edit.Target.TheVariants.{Range as InRange, Element as OfElement}

-- fields, in the order of the bytes of their names
abbrev pub members : List (List ℕ × Data) → Members
members [] = no_members
members (field ∷ fields) = put field.0 field.1 (members fields)

-- an object whose field `edit` names the edit, and with these fields
abbrev pub edit_object : List ℕ → List (List ℕ × Data) → Data
edit_object kind fields = object (members ((codes "edit", string kind) ∷ fields))

-- the ends of a range, or the path of an element
abbrev pub target_fields : Target → List (List ℕ × Data)
target_fields (InRange start end) = (codes "start", numbers_form start) ∷ (codes "end", numbers_form end) ∷ []
target_fields (OfElement path) = (codes "path", numbers_form path) ∷ []

-- An edit with all of its fields. A script has no form for the insertion of items.
abbrev pub edit_form : Edit → Data
edit_form (InsertText at text attributes) =
    edit_object (codes "insertText") ((codes "at", numbers_form at) ∷ (codes "text", text_form text) ∷ (codes "attributes", attributes_form attributes) ∷ [])
edit_form (InsertElement at name attributes) =
    edit_object (codes "insertElement") ((codes "at", numbers_form at) ∷ (codes "name", string name) ∷ (codes "attributes", attributes_form attributes) ∷ [])
edit_form (Remove start end) = edit_object (codes "remove") ((codes "start", numbers_form start) ∷ (codes "end", numbers_form end) ∷ [])
edit_form (Move start end to) =
    edit_object (codes "move") ((codes "start", numbers_form start) ∷ (codes "end", numbers_form end) ∷ (codes "to", numbers_form to) ∷ [])
edit_form (SetAttribute target key value) =
    edit_object (codes "setAttribute") (target_fields target ++ (codes "key", string key) ∷ (codes "value", value_form value) ∷ [])
edit_form (RemoveAttribute target key) = edit_object (codes "removeAttribute") (target_fields target ++ (codes "key", string key) ∷ [])
edit_form (Rename path name) = edit_object (codes "rename") ((codes "path", numbers_form path) ∷ (codes "name", string name) ∷ [])
edit_form (Split at) = edit_object (codes "split") ((codes "at", numbers_form at) ∷ [])
edit_form (Merge at) = edit_object (codes "merge") ((codes "at", numbers_form at) ∷ [])
edit_form (Wrap start end name attributes) =
    edit_object (codes "wrap") ((codes "start", numbers_form start) ∷ (codes "end", numbers_form end) ∷ (codes "name", string name) ∷
    (codes "attributes", attributes_form attributes) ∷ [])
edit_form (Unwrap path) = edit_object (codes "unwrap") ((codes "path", numbers_form path) ∷ [])
edit_form (AddMarker name start end) =
    edit_object (codes "addMarker") ((codes "name", string name) ∷ (codes "start", numbers_form start) ∷ (codes "end", numbers_form end) ∷ [])
edit_form (UpdateMarker name start end) =
    edit_object (codes "updateMarker") ((codes "name", string name) ∷ (codes "start", numbers_form start) ∷ (codes "end", numbers_form end) ∷ [])
edit_form (RemoveMarker name) = edit_object (codes "removeMarker") ((codes "name", string name) ∷ [])
edit_form (Select start end backward) =
    edit_object (codes "select") ((codes "start", numbers_form start) ∷ (codes "end", numbers_form end) ∷ (codes "backward", boolean backward) ∷ [])
edit_form (SelectionAttribute key value) = edit_object (codes "selectionAttribute") ((codes "key", string key) ∷ (codes "value", nullable_form value) ∷ [])
edit_form (InsertItems at items) = null

-- edits, as a list
abbrev pub edits_items : List Edit → Items
edits_items [] = no_items
edits_items (edit ∷ edits) = item (edit_form edit) (edits_items edits)

-- ---- limits

-- both ends of a range, or the path of an element
abbrev pub is_target : Target → Bool
is_target (InRange start end) = is_position start && is_position end
is_target (OfElement path) = is_path path

-- Positions, paths, names, values and attributes keep the limits of their types, and the edit is one that a script has.
abbrev pub is_written : Edit → Bool
is_written (InsertText at text attributes) = is_position at && (all_scalars text && are_attributes attributes)
is_written (InsertElement at name attributes) = is_position at && (is_name name && are_attributes attributes)
is_written (Remove start end) = is_position start && is_position end
is_written (Move start end to) = is_position start && (is_position end && is_position to)
is_written (SetAttribute target key value) = is_target target && (is_name key && is_value value)
is_written (RemoveAttribute target key) = is_target target && is_name key
is_written (Rename path name) = is_path path && is_name name
is_written (Split at) = is_position at
is_written (Merge at) = is_position at
is_written (Wrap start end name attributes) = is_position start && (is_position end && (is_name name && are_attributes attributes))
is_written (Unwrap path) = is_path path
is_written (AddMarker name start end) = is_name name && (is_position start && is_position end)
is_written (UpdateMarker name start end) = is_name name && (is_position start && is_position end)
is_written (RemoveMarker name) = is_name name
is_written (Select start end backward) = is_position start && is_position end
is_written (SelectionAttribute key value) = is_name key && is_nullable value
is_written (InsertItems at items) = false
