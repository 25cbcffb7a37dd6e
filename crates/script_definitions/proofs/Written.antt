-- What is written of an edit is read as this edit.
use Rattle.std.proofs.Common.{◌≡◌, ℕ, ◌+◌, List, [], ◌∷◌, Bool, true, false, ◌&&◌, if◌then◌else◌, is_some, unwrap_or, Option, Some, None, Ok, refl, ap, ◌∙◌}
use Rattle.std.proofs.Common.{codes, encode_utf8_all}
use Rattle.std.specs.Str.{chars, all_scalars}
use Rattle.std.specs.List.{list_all}
use Rattle.std.proofs.lemmas.Str.{chars-encodes}
use Rattle.serde_json.specs.Data.{Data, boolean}
use Rattle.serde_json.specs.Find.{get}
use Rattle.ck_base.specs.Name.{is_name}
use Rattle.ck_base.specs.declared.value.Value.{Value as AttributeValue}
use Rattle.ck_base.proofs.Common.{first, second}
use Rattle.json_forms.specs.Form.{index_path, object_at, text_field, position_field, only_fields}
use Rattle.json_names.specs.Names.{name_field, optional_truth}
use Rattle.json_values.specs.Values.{value_field, nullable_field, attributes_field, path_field}
use Rattle.json_values.specs.Written.{numbers_form, is_position, is_path, is_value, is_nullable, are_attributes}
use Rattle.json_values.proofs.Written.{position_written, path_written, text_written, name_written, value_written, nullable_written, attributes_written}
use Rattle.edit_definitions.specs.declared.edit.Edit.{Edit}
use Rattle.edit_definitions.specs.declared.edit.Edit.TheVariants.{InsertText, InsertElement, Remove, Move, SetAttribute, RemoveAttribute, Rename, Split, Merge}
use Rattle.edit_definitions.specs.declared.edit.Edit.TheVariants.{Wrap, Unwrap, AddMarker, UpdateMarker, RemoveMarker, Select, SelectionAttribute, InsertItems}
use Rattle.edit_definitions.specs.declared.edit.Target.{Target}
use Rattle.edit_definitions.specs.declared.edit.Target.TheVariants.{Range as InRange, Element as OfElement}
use Rattle.script_definitions.specs.Edits.{insert_text_at, insert_element_at, remove_at, move_at, set_attribute_at, remove_attribute_at, rename_at, split_at}
use Rattle.script_definitions.specs.Edits.{merge_at, wrap_at, unwrap_at, add_marker_at, update_marker_at, remove_marker_at, select_at, selection_attribute_at}
use Rattle.script_definitions.specs.Edits.{range_target_at, element_target_at, target_at, end_or, beside_edit_of, element_edit_of, edit_of, edit_at, edits_at}
use Rattle.script_definitions.specs.Written.{edit_form, edits_items, is_written}

-- ---- what the steps of each reader give together

truth_written : (path name : List ℕ) (d : Data) (truth : Bool) → get name d ≡ Some (boolean truth) → optional_truth path name d ≡ Ok (Some truth)
unfolding optional_truth
truth_written path name d truth g = rw g refl

end_written : (path start end : List ℕ) (d : Data) → get (codes "end") d ≡ Some (numbers_form end) → is_position end ≡ true → end_or path start d ≡ Ok end
unfolding end_or
end_written path start end d g e = ap (λ o. if is_some o then position_field path (codes "end") d else Ok start) g
    ∙ position_written path (codes "end") d end g e

range_written : (path : List ℕ) (d : Data) (start end : List ℕ) → position_field path (codes "start") d ≡ Ok start → position_field path (codes "end") d
    ≡ Ok end → range_target_at path d ≡ Ok (InRange start end)
unfolding range_target_at
range_written path d start end s e = rw (s, e) refl

in_range_written : (path : List ℕ) (d : Data) (start end : List ℕ) → get (codes "path") d ≡ None → position_field path (codes "start") d ≡ Ok start
    → position_field path (codes "end") d ≡ Ok end → target_at path d ≡ Ok (InRange start end)
unfolding target_at
in_range_written path d start end none s e = ap (λ o. if is_some o then element_target_at path d else range_target_at path d) none
    ∙ range_written path d start end s e

element_written : (path : List ℕ) (d : Data) (element : List ℕ) → get (codes "start") d ≡ None → get (codes "end") d ≡ None
    → path_field path (codes "path") d ≡ Ok element → element_target_at path d ≡ Ok (OfElement element)
unfolding element_target_at
element_written path d element s e p = rw (s, e, p) refl

of_element_written : (path : List ℕ) (d found : Data) (element : List ℕ) → get (codes "path") d ≡ Some found → get (codes "start") d ≡ None
    → get (codes "end") d ≡ None → path_field path (codes "path") d ≡ Ok element → target_at path d ≡ Ok (OfElement element)
unfolding target_at
of_element_written path d found element some s e p = ap (λ o. if is_some o then element_target_at path d else range_target_at path d) some
    ∙ element_written path d element s e p

insert_text_reads : (path : List ℕ) (d : Data) (at : List ℕ) (text : List ℕ) (attributes : List (List ℕ × AttributeValue))
    → position_field path (codes "at") d ≡ Ok at → text_field path (codes "text") d ≡ Ok text → attributes_field path (codes "attributes") d
    ≡ Ok attributes → only_fields path (codes "edit" ∷ codes "at" ∷ codes "text" ∷ codes "attributes" ∷ []) d ≡ Ok tt
    → insert_text_at path d ≡ Ok (InsertText at (chars text) attributes)
unfolding insert_text_at
insert_text_reads path d at text attributes e0 e1 e2 e3 = rw (e0, e1, e2, e3) refl

insert_element_reads : (path : List ℕ) (d : Data) (at : List ℕ) (name : List ℕ) (attributes : List (List ℕ × AttributeValue))
    → position_field path (codes "at") d ≡ Ok at → name_field path (codes "name") d ≡ Ok name → attributes_field path (codes "attributes") d
    ≡ Ok attributes → only_fields path (codes "edit" ∷ codes "at" ∷ codes "name" ∷ codes "attributes" ∷ []) d ≡ Ok tt
    → insert_element_at path d ≡ Ok (InsertElement at name attributes)
unfolding insert_element_at
insert_element_reads path d at name attributes e0 e1 e2 e3 = rw (e0, e1, e2, e3) refl

remove_reads : (path : List ℕ) (d : Data) (start : List ℕ) (end : List ℕ) → position_field path (codes "start") d ≡ Ok start
    → position_field path (codes "end") d ≡ Ok end → only_fields path (codes "edit" ∷ codes "start" ∷ codes "end" ∷ []) d ≡ Ok tt
    → remove_at path d ≡ Ok (Remove start end)
unfolding remove_at
remove_reads path d start end e0 e1 e2 = rw (e0, e1, e2) refl

move_reads : (path : List ℕ) (d : Data) (start : List ℕ) (end : List ℕ) (to : List ℕ) → position_field path (codes "start") d ≡ Ok start
    → position_field path (codes "end") d ≡ Ok end → position_field path (codes "to") d ≡ Ok to
    → only_fields path (codes "edit" ∷ codes "start" ∷ codes "end" ∷ codes "to" ∷ []) d ≡ Ok tt
    → move_at path d ≡ Ok (Move start end to)
unfolding move_at
move_reads path d start end to e0 e1 e2 e3 = rw (e0, e1, e2, e3) refl

set_attribute_reads : (path : List ℕ) (d : Data) (target : Target) (key : List ℕ) (value : AttributeValue) → target_at path d ≡ Ok target
    → name_field path (codes "key") d ≡ Ok key → value_field path (codes "value") d ≡ Ok value
    → only_fields path (codes "edit" ∷ codes "start" ∷ codes "end" ∷ codes "path" ∷ codes "key" ∷ codes "value" ∷ []) d ≡ Ok tt
    → set_attribute_at path d ≡ Ok (SetAttribute target key value)
unfolding set_attribute_at
set_attribute_reads path d target key value e0 e1 e2 e3 = rw (e0, e1, e2, e3) refl

remove_attribute_reads : (path : List ℕ) (d : Data) (target : Target) (key : List ℕ) → target_at path d ≡ Ok target → name_field path (codes "key") d
    ≡ Ok key → only_fields path (codes "edit" ∷ codes "start" ∷ codes "end" ∷ codes "path" ∷ codes "key" ∷ []) d ≡ Ok tt
    → remove_attribute_at path d ≡ Ok (RemoveAttribute target key)
unfolding remove_attribute_at
remove_attribute_reads path d target key e0 e1 e2 = rw (e0, e1, e2) refl

rename_reads : (path : List ℕ) (d : Data) (element : List ℕ) (name : List ℕ) → path_field path (codes "path") d ≡ Ok element
    → name_field path (codes "name") d ≡ Ok name → only_fields path (codes "edit" ∷ codes "path" ∷ codes "name" ∷ []) d ≡ Ok tt
    → rename_at path d ≡ Ok (Rename element name)
unfolding rename_at
rename_reads path d element name e0 e1 e2 = rw (e0, e1, e2) refl

split_reads : (path : List ℕ) (d : Data) (at : List ℕ) → position_field path (codes "at") d ≡ Ok at
    → only_fields path (codes "edit" ∷ codes "at" ∷ []) d ≡ Ok tt
    → split_at path d ≡ Ok (Split at)
unfolding split_at
split_reads path d at e0 e1 = rw (e0, e1) refl

merge_reads : (path : List ℕ) (d : Data) (at : List ℕ) → position_field path (codes "at") d ≡ Ok at
    → only_fields path (codes "edit" ∷ codes "at" ∷ []) d ≡ Ok tt
    → merge_at path d ≡ Ok (Merge at)
unfolding merge_at
merge_reads path d at e0 e1 = rw (e0, e1) refl

wrap_reads : (path : List ℕ) (d : Data) (start : List ℕ) (end : List ℕ) (name : List ℕ) (attributes : List (List ℕ × AttributeValue))
    → position_field path (codes "start") d ≡ Ok start → position_field path (codes "end") d ≡ Ok end → name_field path (codes "name") d ≡ Ok name
    → attributes_field path (codes "attributes") d ≡ Ok attributes
    → only_fields path (codes "edit" ∷ codes "start" ∷ codes "end" ∷ codes "name" ∷ codes "attributes" ∷ []) d ≡ Ok tt
    → wrap_at path d ≡ Ok (Wrap start end name attributes)
unfolding wrap_at
wrap_reads path d start end name attributes e0 e1 e2 e3 e4 = rw (e0, e1, e2, e3, e4) refl

unwrap_reads : (path : List ℕ) (d : Data) (element : List ℕ) → path_field path (codes "path") d ≡ Ok element
    → only_fields path (codes "edit" ∷ codes "path" ∷ []) d ≡ Ok tt
    → unwrap_at path d ≡ Ok (Unwrap element)
unfolding unwrap_at
unwrap_reads path d element e0 e1 = rw (e0, e1) refl

add_marker_reads : (path : List ℕ) (d : Data) (name : List ℕ) (start : List ℕ) (end : List ℕ) → name_field path (codes "name") d ≡ Ok name
    → position_field path (codes "start") d ≡ Ok start → position_field path (codes "end") d ≡ Ok end
    → only_fields path (codes "edit" ∷ codes "name" ∷ codes "start" ∷ codes "end" ∷ []) d ≡ Ok tt
    → add_marker_at path d ≡ Ok (AddMarker name start end)
unfolding add_marker_at
add_marker_reads path d name start end e0 e1 e2 e3 = rw (e0, e1, e2, e3) refl

update_marker_reads : (path : List ℕ) (d : Data) (name : List ℕ) (start : List ℕ) (end : List ℕ) → name_field path (codes "name") d ≡ Ok name
    → position_field path (codes "start") d ≡ Ok start → position_field path (codes "end") d ≡ Ok end
    → only_fields path (codes "edit" ∷ codes "name" ∷ codes "start" ∷ codes "end" ∷ []) d ≡ Ok tt
    → update_marker_at path d ≡ Ok (UpdateMarker name start end)
unfolding update_marker_at
update_marker_reads path d name start end e0 e1 e2 e3 = rw (e0, e1, e2, e3) refl

remove_marker_reads : (path : List ℕ) (d : Data) (name : List ℕ) → name_field path (codes "name") d ≡ Ok name
    → only_fields path (codes "edit" ∷ codes "name" ∷ []) d ≡ Ok tt
    → remove_marker_at path d ≡ Ok (RemoveMarker name)
unfolding remove_marker_at
remove_marker_reads path d name e0 e1 = rw (e0, e1) refl

select_reads : (path : List ℕ) (d : Data) (start : List ℕ) (end : List ℕ) (backward : Option Bool) → position_field path (codes "start") d ≡ Ok start
    → end_or path start d ≡ Ok end → optional_truth path (codes "backward") d ≡ Ok backward
    → only_fields path (codes "edit" ∷ codes "start" ∷ codes "end" ∷ codes "backward" ∷ []) d ≡ Ok tt
    → select_at path d ≡ Ok (Select start end (unwrap_or backward false))
unfolding select_at
select_reads path d start end backward e0 e1 e2 e3 = rw (e0, e1, e2, e3) refl

selection_attribute_reads : (path : List ℕ) (d : Data) (key : List ℕ) (value : Option AttributeValue) → name_field path (codes "key") d ≡ Ok key
    → nullable_field path (codes "value") d ≡ Ok value → only_fields path (codes "edit" ∷ codes "key" ∷ codes "value" ∷ []) d ≡ Ok tt
    → selection_attribute_at path d ≡ Ok (SelectionAttribute key value)
unfolding selection_attribute_at
selection_attribute_reads path d key value e0 e1 e2 = rw (e0, e1, e2) refl

-- ---- each edit is read back

insert_text_back : (path : List ℕ) (at : List ℕ) (text : List ℕ) (attributes : List (List ℕ × AttributeValue))
    → is_written (InsertText at text attributes) ≡ true → edit_at path (edit_form (InsertText at text attributes)) ≡ Ok (InsertText at text attributes)
unfolding edit_at edit_of element_edit_of beside_edit_of object_at text_field only_fields
insert_text_back path at text attributes e =
    let d = edit_form (InsertText at text attributes) in
    let at_kept = first (is_position at) (all_scalars text && are_attributes attributes) e in
    let behind_at = second (is_position at) (all_scalars text && are_attributes attributes) e in
    let text_kept = first (all_scalars text) (are_attributes attributes) behind_at in
    let behind_text = second (all_scalars text) (are_attributes attributes) behind_at in
    insert_text_reads path d at (encode_utf8_all text) attributes
    (position_written path (codes "at") d at refl at_kept) (text_written path (codes "text") d (encode_utf8_all text) refl)
    (attributes_written path (codes "attributes") d attributes refl behind_text) refl
    ∙ ap (λ t. Ok (InsertText at t attributes)) (chars-encodes text text_kept)

insert_element_back : (path : List ℕ) (at : List ℕ) (name : List ℕ) (attributes : List (List ℕ × AttributeValue))
    → is_written (InsertElement at name attributes) ≡ true → edit_at path (edit_form (InsertElement at name attributes)) ≡ Ok (InsertElement at name attributes)
unfolding edit_at edit_of element_edit_of beside_edit_of object_at text_field only_fields
insert_element_back path at name attributes e =
    let d = edit_form (InsertElement at name attributes) in
    let at_kept = first (is_position at) (is_name name && are_attributes attributes) e in
    let behind_at = second (is_position at) (is_name name && are_attributes attributes) e in
    let name_kept = first (is_name name) (are_attributes attributes) behind_at in
    let behind_name = second (is_name name) (are_attributes attributes) behind_at in
    insert_element_reads path d at name attributes
    (position_written path (codes "at") d at refl at_kept) (name_written path (codes "name") d name refl name_kept)
    (attributes_written path (codes "attributes") d attributes refl behind_name) refl

remove_back : (path : List ℕ) (start : List ℕ) (end : List ℕ) → is_written (Remove start end) ≡ true → edit_at path (edit_form (Remove start end))
    ≡ Ok (Remove start end)
unfolding edit_at edit_of element_edit_of beside_edit_of object_at text_field only_fields
remove_back path start end e =
    let d = edit_form (Remove start end) in
    let start_kept = first (is_position start) (is_position end) e in
    let behind_start = second (is_position start) (is_position end) e in
    remove_reads path d start end
    (position_written path (codes "start") d start refl start_kept) (position_written path (codes "end") d end refl behind_start) refl

move_back : (path : List ℕ) (start : List ℕ) (end : List ℕ) (to : List ℕ) → is_written (Move start end to) ≡ true
    → edit_at path (edit_form (Move start end to)) ≡ Ok (Move start end to)
unfolding edit_at edit_of element_edit_of beside_edit_of object_at text_field only_fields
move_back path start end to e =
    let d = edit_form (Move start end to) in
    let start_kept = first (is_position start) (is_position end && is_position to) e in
    let behind_start = second (is_position start) (is_position end && is_position to) e in
    let end_kept = first (is_position end) (is_position to) behind_start in
    let behind_end = second (is_position end) (is_position to) behind_start in
    move_reads path d start end to
    (position_written path (codes "start") d start refl start_kept) (position_written path (codes "end") d end refl end_kept)
    (position_written path (codes "to") d to refl behind_end) refl

set_attribute_in_range : (path : List ℕ) (start : List ℕ) (end : List ℕ) (key : List ℕ) (value : AttributeValue)
    → is_written (SetAttribute (InRange start end) key value) ≡ true → edit_at path (edit_form (SetAttribute (InRange start end) key value))
    ≡ Ok (SetAttribute (InRange start end) key value)
unfolding edit_at edit_of element_edit_of beside_edit_of object_at text_field only_fields
set_attribute_in_range path start end key value e =
    let d = edit_form (SetAttribute (InRange start end) key value) in
    let target_kept = first (is_position start && is_position end) (is_name key && is_value value) e in
    let behind_target = second (is_position start && is_position end) (is_name key && is_value value) e in
    let key_kept = first (is_name key) (is_value value) behind_target in
    let behind_key = second (is_name key) (is_value value) behind_target in
    let start_kept = first (is_position start) (is_position end) target_kept in
    let end_kept = second (is_position start) (is_position end) target_kept in
    set_attribute_reads path d (InRange start end) key value
    (in_range_written path d start end refl (position_written path (codes "start") d start refl start_kept)
    (position_written path (codes "end") d end refl end_kept)) (name_written path (codes "key") d key refl key_kept)
    (value_written path (codes "value") d value refl behind_key) refl

set_attribute_of_element : (path : List ℕ) (element : List ℕ) (key : List ℕ) (value : AttributeValue)
    → is_written (SetAttribute (OfElement element) key value) ≡ true → edit_at path (edit_form (SetAttribute (OfElement element) key value))
    ≡ Ok (SetAttribute (OfElement element) key value)
unfolding edit_at edit_of element_edit_of beside_edit_of object_at text_field only_fields
set_attribute_of_element path element key value e =
    let d = edit_form (SetAttribute (OfElement element) key value) in
    let target_kept = first (is_path element) (is_name key && is_value value) e in
    let behind_target = second (is_path element) (is_name key && is_value value) e in
    let key_kept = first (is_name key) (is_value value) behind_target in
    let behind_key = second (is_name key) (is_value value) behind_target in
    set_attribute_reads path d (OfElement element) key value
    (of_element_written path d (numbers_form element) element refl refl refl (path_written path (codes "path") d element refl target_kept))
    (name_written path (codes "key") d key refl key_kept) (value_written path (codes "value") d value refl behind_key) refl

remove_attribute_in_range : (path : List ℕ) (start : List ℕ) (end : List ℕ) (key : List ℕ) → is_written (RemoveAttribute (InRange start end) key) ≡ true
    → edit_at path (edit_form (RemoveAttribute (InRange start end) key)) ≡ Ok (RemoveAttribute (InRange start end) key)
unfolding edit_at edit_of element_edit_of beside_edit_of object_at text_field only_fields
remove_attribute_in_range path start end key e =
    let d = edit_form (RemoveAttribute (InRange start end) key) in
    let target_kept = first (is_position start && is_position end) (is_name key) e in
    let behind_target = second (is_position start && is_position end) (is_name key) e in
    let start_kept = first (is_position start) (is_position end) target_kept in
    let end_kept = second (is_position start) (is_position end) target_kept in
    remove_attribute_reads path d (InRange start end) key
    (in_range_written path d start end refl (position_written path (codes "start") d start refl start_kept)
    (position_written path (codes "end") d end refl end_kept)) (name_written path (codes "key") d key refl behind_target) refl

remove_attribute_of_element : (path : List ℕ) (element : List ℕ) (key : List ℕ) → is_written (RemoveAttribute (OfElement element) key) ≡ true
    → edit_at path (edit_form (RemoveAttribute (OfElement element) key)) ≡ Ok (RemoveAttribute (OfElement element) key)
unfolding edit_at edit_of element_edit_of beside_edit_of object_at text_field only_fields
remove_attribute_of_element path element key e =
    let d = edit_form (RemoveAttribute (OfElement element) key) in
    let target_kept = first (is_path element) (is_name key) e in
    let behind_target = second (is_path element) (is_name key) e in
    remove_attribute_reads path d (OfElement element) key
    (of_element_written path d (numbers_form element) element refl refl refl (path_written path (codes "path") d element refl target_kept))
    (name_written path (codes "key") d key refl behind_target) refl

rename_back : (path : List ℕ) (element : List ℕ) (name : List ℕ) → is_written (Rename element name) ≡ true
    → edit_at path (edit_form (Rename element name)) ≡ Ok (Rename element name)
unfolding edit_at edit_of element_edit_of beside_edit_of object_at text_field only_fields
rename_back path element name e =
    let d = edit_form (Rename element name) in
    let element_kept = first (is_path element) (is_name name) e in
    let behind_element = second (is_path element) (is_name name) e in
    rename_reads path d element name
    (path_written path (codes "path") d element refl element_kept) (name_written path (codes "name") d name refl behind_element) refl

split_back : (path : List ℕ) (at : List ℕ) → is_written (Split at) ≡ true → edit_at path (edit_form (Split at)) ≡ Ok (Split at)
unfolding edit_at edit_of element_edit_of beside_edit_of object_at text_field only_fields
split_back path at e =
    let d = edit_form (Split at) in
    split_reads path d at
    (position_written path (codes "at") d at refl e) refl

merge_back : (path : List ℕ) (at : List ℕ) → is_written (Merge at) ≡ true → edit_at path (edit_form (Merge at)) ≡ Ok (Merge at)
unfolding edit_at edit_of element_edit_of beside_edit_of object_at text_field only_fields
merge_back path at e =
    let d = edit_form (Merge at) in
    merge_reads path d at
    (position_written path (codes "at") d at refl e) refl

wrap_back : (path : List ℕ) (start : List ℕ) (end : List ℕ) (name : List ℕ) (attributes : List (List ℕ × AttributeValue))
    → is_written (Wrap start end name attributes) ≡ true → edit_at path (edit_form (Wrap start end name attributes)) ≡ Ok (Wrap start end name attributes)
unfolding edit_at edit_of element_edit_of beside_edit_of object_at text_field only_fields
wrap_back path start end name attributes e =
    let d = edit_form (Wrap start end name attributes) in
    let start_kept = first (is_position start) (is_position end && (is_name name && are_attributes attributes)) e in
    let behind_start = second (is_position start) (is_position end && (is_name name && are_attributes attributes)) e in
    let end_kept = first (is_position end) (is_name name && are_attributes attributes) behind_start in
    let behind_end = second (is_position end) (is_name name && are_attributes attributes) behind_start in
    let name_kept = first (is_name name) (are_attributes attributes) behind_end in
    let behind_name = second (is_name name) (are_attributes attributes) behind_end in
    wrap_reads path d start end name attributes
    (position_written path (codes "start") d start refl start_kept) (position_written path (codes "end") d end refl end_kept)
    (name_written path (codes "name") d name refl name_kept) (attributes_written path (codes "attributes") d attributes refl behind_name) refl

unwrap_back : (path : List ℕ) (element : List ℕ) → is_written (Unwrap element) ≡ true → edit_at path (edit_form (Unwrap element)) ≡ Ok (Unwrap element)
unfolding edit_at edit_of element_edit_of beside_edit_of object_at text_field only_fields
unwrap_back path element e =
    let d = edit_form (Unwrap element) in
    unwrap_reads path d element
    (path_written path (codes "path") d element refl e) refl

add_marker_back : (path : List ℕ) (name : List ℕ) (start : List ℕ) (end : List ℕ) → is_written (AddMarker name start end) ≡ true
    → edit_at path (edit_form (AddMarker name start end)) ≡ Ok (AddMarker name start end)
unfolding edit_at edit_of element_edit_of beside_edit_of object_at text_field only_fields
add_marker_back path name start end e =
    let d = edit_form (AddMarker name start end) in
    let name_kept = first (is_name name) (is_position start && is_position end) e in
    let behind_name = second (is_name name) (is_position start && is_position end) e in
    let start_kept = first (is_position start) (is_position end) behind_name in
    let behind_start = second (is_position start) (is_position end) behind_name in
    add_marker_reads path d name start end
    (name_written path (codes "name") d name refl name_kept) (position_written path (codes "start") d start refl start_kept)
    (position_written path (codes "end") d end refl behind_start) refl

update_marker_back : (path : List ℕ) (name : List ℕ) (start : List ℕ) (end : List ℕ) → is_written (UpdateMarker name start end) ≡ true
    → edit_at path (edit_form (UpdateMarker name start end)) ≡ Ok (UpdateMarker name start end)
unfolding edit_at edit_of element_edit_of beside_edit_of object_at text_field only_fields
update_marker_back path name start end e =
    let d = edit_form (UpdateMarker name start end) in
    let name_kept = first (is_name name) (is_position start && is_position end) e in
    let behind_name = second (is_name name) (is_position start && is_position end) e in
    let start_kept = first (is_position start) (is_position end) behind_name in
    let behind_start = second (is_position start) (is_position end) behind_name in
    update_marker_reads path d name start end
    (name_written path (codes "name") d name refl name_kept) (position_written path (codes "start") d start refl start_kept)
    (position_written path (codes "end") d end refl behind_start) refl

remove_marker_back : (path : List ℕ) (name : List ℕ) → is_written (RemoveMarker name) ≡ true → edit_at path (edit_form (RemoveMarker name))
    ≡ Ok (RemoveMarker name)
unfolding edit_at edit_of element_edit_of beside_edit_of object_at text_field only_fields
remove_marker_back path name e =
    let d = edit_form (RemoveMarker name) in
    remove_marker_reads path d name
    (name_written path (codes "name") d name refl e) refl

select_back : (path : List ℕ) (start : List ℕ) (end : List ℕ) (backward : Bool) → is_written (Select start end backward) ≡ true
    → edit_at path (edit_form (Select start end backward)) ≡ Ok (Select start end backward)
unfolding edit_at edit_of element_edit_of beside_edit_of object_at text_field only_fields
select_back path start end backward e =
    let d = edit_form (Select start end backward) in
    let start_kept = first (is_position start) (is_position end) e in
    let behind_start = second (is_position start) (is_position end) e in
    select_reads path d start end (Some backward)
    (position_written path (codes "start") d start refl start_kept) (end_written path start end d refl behind_start)
    (truth_written path (codes "backward") d backward refl) refl

selection_attribute_back : (path : List ℕ) (key : List ℕ) (value : Option AttributeValue) → is_written (SelectionAttribute key value) ≡ true
    → edit_at path (edit_form (SelectionAttribute key value)) ≡ Ok (SelectionAttribute key value)
unfolding edit_at edit_of element_edit_of beside_edit_of object_at text_field only_fields
selection_attribute_back path key value e =
    let d = edit_form (SelectionAttribute key value) in
    let key_kept = first (is_name key) (is_nullable value) e in
    let behind_key = second (is_name key) (is_nullable value) e in
    selection_attribute_reads path d key value
    (name_written path (codes "key") d key refl key_kept) (nullable_written path (codes "value") d value refl behind_key) refl

pub reads_back : (path : List ℕ) (edit : Edit) → is_written edit ≡ true → edit_at path (edit_form edit) ≡ Ok edit
reads_back path (InsertText at text attributes) e = insert_text_back path at text attributes e
reads_back path (InsertElement at name attributes) e = insert_element_back path at name attributes e
reads_back path (Remove start end) e = remove_back path start end e
reads_back path (Move start end to) e = move_back path start end to e
reads_back path (SetAttribute (InRange start end) key value) e = set_attribute_in_range path start end key value e
reads_back path (SetAttribute (OfElement element) key value) e = set_attribute_of_element path element key value e
reads_back path (RemoveAttribute (InRange start end) key) e = remove_attribute_in_range path start end key e
reads_back path (RemoveAttribute (OfElement element) key) e = remove_attribute_of_element path element key e
reads_back path (Rename element name) e = rename_back path element name e
reads_back path (Split at) e = split_back path at e
reads_back path (Merge at) e = merge_back path at e
reads_back path (Wrap start end name attributes) e = wrap_back path start end name attributes e
reads_back path (Unwrap element) e = unwrap_back path element e
reads_back path (AddMarker name start end) e = add_marker_back path name start end e
reads_back path (UpdateMarker name start end) e = update_marker_back path name start end e
reads_back path (RemoveMarker name) e = remove_marker_back path name e
reads_back path (Select start end backward) e = select_back path start end backward e
reads_back path (SelectionAttribute key value) e = selection_attribute_back path key value e
reads_back path (InsertItems at items) e = absurd cc

pub all_read_back : (path : List ℕ) (index : ℕ) (edits : List Edit) → list_all is_written edits ≡ true → edits_at path index (edits_items edits) ≡ Ok edits
unfolding edits_at
all_read_back path index [] e = refl
all_read_back path index (edit ∷ edits) e =
    let here = reads_back (index_path path index) edit (first (is_written edit) (list_all is_written edits) e) in
    let later = all_read_back path (index + 1) edits (second (is_written edit) (list_all is_written edits) e) in
    rw (here, later) refl
