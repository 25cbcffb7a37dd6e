-- What is read as an edit keeps the limits.
use Rattle.std.proofs.Common.{◌≡◌, ℕ, List, [], ◌∷◌, Bool, true, false, ◌&&◌, if◌then◌else◌, is_some, unwrap_or, Option, Result, Ok, Err, ◌||◌, subst, codes}
use Rattle.std.specs.Prelude.{⊤}
use Rattle.std.specs.Str.{chars, all_scalars, bytes_eq}
use Rattle.serde_json.specs.Data.{Data}
use Rattle.serde_json.specs.Find.{get}
use Rattle.ck_base.specs.Name.{is_name}
use Rattle.ck_base.specs.declared.value.Value.{Value as AttributeValue}
use Rattle.ck_base.proofs.Common.{both}
use Rattle.json_forms.specs.declared.fault.FormFault.{FormFault}
use Rattle.json_forms.specs.declared.fault.FormFault.TheVariants.{BadField}
use Rattle.json_forms.specs.Form.{◌>>=◌, field_path, object_at, text_field, position_field, only_fields}
use Rattle.json_names.specs.Names.{name_field, optional_truth}
use Rattle.json_values.specs.Values.{value_field, nullable_field, attributes_field, path_field}
use Rattle.json_values.specs.Written.{is_json, is_position, is_path, is_value, is_nullable, are_attributes}
use Rattle.json_values.proofs.Kept.{step, same_ok, position_kept, path_kept, name_kept, text_kept, chars_kept, value_kept, nullable_kept, attributes_kept}
use Rattle.edit_definitions.specs.declared.edit.Edit.{Edit}
use Rattle.edit_definitions.specs.declared.edit.Edit.TheVariants.{InsertText, InsertElement, Remove, Move, SetAttribute, RemoveAttribute, Rename, Split, Merge}
use Rattle.edit_definitions.specs.declared.edit.Edit.TheVariants.{Wrap, Unwrap, AddMarker, UpdateMarker, RemoveMarker, Select, SelectionAttribute}
use Rattle.edit_definitions.specs.declared.edit.Target.{Target}
use Rattle.edit_definitions.specs.declared.edit.Target.TheVariants.{Range as InRange, Element as OfElement}
use Rattle.script_definitions.specs.Edits.{insert_text_at, insert_element_at, remove_at, move_at, set_attribute_at, remove_attribute_at, rename_at, split_at}
use Rattle.script_definitions.specs.Edits.{merge_at, wrap_at, unwrap_at, add_marker_at, update_marker_at, remove_marker_at, select_at, selection_attribute_at}
use Rattle.script_definitions.specs.Edits.{range_target_at, element_target_at, target_at, end_or, beside_edit_of, element_edit_of, edit_of, edit_at}
use Rattle.script_definitions.specs.Written.{is_target, is_written}

choose : {A : Type 0} (t : Bool) (r s : Result A FormFault) (a : A) (P : Type 0) → (r ≡ Ok a → P) → (s ≡ Ok a → P) → (if t then r else s) ≡ Ok a → P
choose true r s a P f g e = f e
choose false r s a P f g e = g e

no_edit : (fault : FormFault) (edit : Edit) (P : Type 0) → ◌≡◌ {A = Result Edit FormFault} (Err fault) (Ok edit) → P
no_edit fault edit P e = absurd cc

end_kept : (path start end : List ℕ) (d : Data) → is_position start ≡ true → end_or path start d ≡ Ok end → is_position end ≡ true
unfolding end_or
end_kept path start end d s e =
    choose (is_some (get (codes "end") d)) (position_field path (codes "end") d) (Ok start) end (is_position end ≡ true)
    (position_kept path (codes "end") d end) (λ e. subst (λ end. is_position end ≡ true) (same_ok start end e) s) e

range_kept : (path : List ℕ) (d : Data) (target : Target) → range_target_at path d ≡ Ok target → is_target target ≡ true
unfolding range_target_at
range_kept path d target e =
    let start = step (position_field path (codes "start") d) (λ (start : List ℕ). position_field path (codes "end") d
    >>= λ (end : List ℕ). Ok (InRange start end)) target e in
    let end = step (position_field path (codes "end") d) (λ (end : List ℕ). Ok (InRange start.0 end)) target start.2 in
    subst (λ target. is_target target ≡ true) (same_ok (InRange start.0 end.0) target end.2)
    (both (is_position start.0) (is_position end.0) (position_kept path (codes "start") d start.0 start.1) (position_kept path (codes "end") d end.0 end.1))

element_kept : (path : List ℕ) (d : Data) (target : Target) → element_target_at path d ≡ Ok target → is_target target ≡ true
unfolding element_target_at
element_kept path d target e =
    choose (is_some (get (codes "start") d) || is_some (get (codes "end") d)) (Err (BadField (field_path path (codes "path"))))
    (path_field path (codes "path") d >>= λ element. Ok (OfElement element)) target (is_target target ≡ true)
    (λ e. absurd cc)
    (λ e. let element = step (path_field path (codes "path") d) (λ element. Ok (OfElement element)) target e in
    subst (λ target. is_target target ≡ true) (same_ok (OfElement element.0) target element.2) (path_kept path (codes "path") d element.0 element.1)) e

target_kept : (path : List ℕ) (d : Data) (target : Target) → target_at path d ≡ Ok target → is_target target ≡ true
unfolding target_at
target_kept path d target e = choose (is_some (get (codes "path") d)) (element_target_at path d) (range_target_at path d) target (is_target target
    ≡ true) (element_kept path d target) (range_kept path d target) e

insert_text_kept : (path : List ℕ) (d : Data) (edit : Edit) → is_json d ≡ true → insert_text_at path d ≡ Ok edit → is_written edit ≡ true
unfolding insert_text_at
insert_text_kept path d edit h e =
    let at_step = step (position_field path (codes "at") d) (λ (at : List ℕ). text_field path (codes "text") d >>= λ (text : List ℕ). attributes_field
    path (codes "attributes") d >>= λ (attributes : List (List ℕ × AttributeValue)). only_fields path
    (codes "edit" ∷ codes "at" ∷ codes "text" ∷ codes "attributes" ∷ []) d >>= λ (done : ⊤). Ok (InsertText at (chars text) attributes)) edit e in
    let text_step = step (text_field path (codes "text") d) (λ (text : List ℕ). attributes_field path (codes "attributes") d
    >>= λ (attributes : List (List ℕ × AttributeValue)). only_fields path (codes "edit" ∷ codes "at" ∷ codes "text" ∷ codes "attributes" ∷ []) d
    >>= λ (done : ⊤). Ok (InsertText at_step.0 (chars text) attributes)) edit at_step.2 in
    let attributes_step = step (attributes_field path (codes "attributes") d)
    (λ (attributes : List (List ℕ × AttributeValue)). only_fields path (codes "edit" ∷ codes "at" ∷ codes "text" ∷ codes "attributes" ∷ []) d
    >>= λ (done : ⊤). Ok (InsertText at_step.0 (chars text_step.0) attributes)) edit text_step.2 in
    let done_step = step (only_fields path (codes "edit" ∷ codes "at" ∷ codes "text" ∷ codes "attributes" ∷ []) d)
    (λ (done : ⊤). Ok (InsertText at_step.0 (chars text_step.0) attributes_step.0)) edit attributes_step.2 in
    subst (λ edit. is_written edit ≡ true) (same_ok (InsertText at_step.0 (chars text_step.0) attributes_step.0) edit done_step.2)
    (both (is_position at_step.0) (all_scalars (chars text_step.0) && are_attributes attributes_step.0)
    (position_kept path (codes "at") d at_step.0 at_step.1)
    (both (all_scalars (chars text_step.0)) (are_attributes attributes_step.0)
    (chars_kept text_step.0 (text_kept path (codes "text") d text_step.0 h text_step.1))
    (attributes_kept path (codes "attributes") d attributes_step.0 h attributes_step.1)))

insert_element_kept : (path : List ℕ) (d : Data) (edit : Edit) → is_json d ≡ true → insert_element_at path d ≡ Ok edit → is_written edit ≡ true
unfolding insert_element_at
insert_element_kept path d edit h e =
    let at_step = step (position_field path (codes "at") d) (λ (at : List ℕ). name_field path (codes "name") d >>= λ (name : List ℕ). attributes_field
    path (codes "attributes") d >>= λ (attributes : List (List ℕ × AttributeValue)). only_fields path
    (codes "edit" ∷ codes "at" ∷ codes "name" ∷ codes "attributes" ∷ []) d >>= λ (done : ⊤). Ok (InsertElement at name attributes)) edit e in
    let name_step = step (name_field path (codes "name") d) (λ (name : List ℕ). attributes_field path (codes "attributes") d
    >>= λ (attributes : List (List ℕ × AttributeValue)). only_fields path (codes "edit" ∷ codes "at" ∷ codes "name" ∷ codes "attributes" ∷ []) d
    >>= λ (done : ⊤). Ok (InsertElement at_step.0 name attributes)) edit at_step.2 in
    let attributes_step = step (attributes_field path (codes "attributes") d)
    (λ (attributes : List (List ℕ × AttributeValue)). only_fields path (codes "edit" ∷ codes "at" ∷ codes "name" ∷ codes "attributes" ∷ []) d
    >>= λ (done : ⊤). Ok (InsertElement at_step.0 name_step.0 attributes)) edit name_step.2 in
    let done_step = step (only_fields path (codes "edit" ∷ codes "at" ∷ codes "name" ∷ codes "attributes" ∷ []) d)
    (λ (done : ⊤). Ok (InsertElement at_step.0 name_step.0 attributes_step.0)) edit attributes_step.2 in
    subst (λ edit. is_written edit ≡ true) (same_ok (InsertElement at_step.0 name_step.0 attributes_step.0) edit done_step.2)
    (both (is_position at_step.0) (is_name name_step.0 && are_attributes attributes_step.0) (position_kept path (codes "at") d at_step.0 at_step.1)
    (both (is_name name_step.0) (are_attributes attributes_step.0) (name_kept path (codes "name") d name_step.0 name_step.1)
    (attributes_kept path (codes "attributes") d attributes_step.0 h attributes_step.1)))

remove_kept : (path : List ℕ) (d : Data) (edit : Edit) → is_json d ≡ true → remove_at path d ≡ Ok edit → is_written edit ≡ true
unfolding remove_at
remove_kept path d edit h e =
    let start_step = step (position_field path (codes "start") d) (λ (start : List ℕ). position_field path (codes "end") d
    >>= λ (end : List ℕ). only_fields path (codes "edit" ∷ codes "start" ∷ codes "end" ∷ []) d >>= λ (done : ⊤). Ok (Remove start end)) edit e in
    let end_step = step (position_field path (codes "end") d) (λ (end : List ℕ). only_fields path (codes "edit" ∷ codes "start" ∷ codes "end" ∷ []) d
    >>= λ (done : ⊤). Ok (Remove start_step.0 end)) edit start_step.2 in
    let done_step = step (only_fields path (codes "edit" ∷ codes "start" ∷ codes "end" ∷ []) d) (λ (done : ⊤). Ok (Remove start_step.0 end_step.0)) edit
    end_step.2 in
    subst (λ edit. is_written edit ≡ true) (same_ok (Remove start_step.0 end_step.0) edit done_step.2)
    (both (is_position start_step.0) (is_position end_step.0) (position_kept path (codes "start") d start_step.0 start_step.1)
    (position_kept path (codes "end") d end_step.0 end_step.1))

move_kept : (path : List ℕ) (d : Data) (edit : Edit) → is_json d ≡ true → move_at path d ≡ Ok edit → is_written edit ≡ true
unfolding move_at
move_kept path d edit h e =
    let start_step = step (position_field path (codes "start") d) (λ (start : List ℕ). position_field path (codes "end") d
    >>= λ (end : List ℕ). position_field path (codes "to") d >>= λ (to : List ℕ). only_fields path
    (codes "edit" ∷ codes "start" ∷ codes "end" ∷ codes "to" ∷ []) d >>= λ (done : ⊤). Ok (Move start end to)) edit e in
    let end_step = step (position_field path (codes "end") d) (λ (end : List ℕ). position_field path (codes "to") d
    >>= λ (to : List ℕ). only_fields path (codes "edit" ∷ codes "start" ∷ codes "end" ∷ codes "to" ∷ []) d
    >>= λ (done : ⊤). Ok (Move start_step.0 end to)) edit start_step.2 in
    let to_step = step (position_field path (codes "to") d)
    (λ (to : List ℕ). only_fields path (codes "edit" ∷ codes "start" ∷ codes "end" ∷ codes "to" ∷ []) d
    >>= λ (done : ⊤). Ok (Move start_step.0 end_step.0 to)) edit end_step.2 in
    let done_step = step (only_fields path (codes "edit" ∷ codes "start" ∷ codes "end" ∷ codes "to" ∷ []) d)
    (λ (done : ⊤). Ok (Move start_step.0 end_step.0 to_step.0)) edit to_step.2 in
    subst (λ edit. is_written edit ≡ true) (same_ok (Move start_step.0 end_step.0 to_step.0) edit done_step.2)
    (both (is_position start_step.0) (is_position end_step.0 && is_position to_step.0) (position_kept path (codes "start") d start_step.0 start_step.1)
    (both (is_position end_step.0) (is_position to_step.0) (position_kept path (codes "end") d end_step.0 end_step.1)
    (position_kept path (codes "to") d to_step.0 to_step.1)))

set_attribute_kept : (path : List ℕ) (d : Data) (edit : Edit) → is_json d ≡ true → set_attribute_at path d ≡ Ok edit → is_written edit ≡ true
unfolding set_attribute_at
set_attribute_kept path d edit h e =
    let target_step = step (target_at path d) (λ (target : Target). name_field path (codes "key") d >>= λ (key : List ℕ). value_field path
    (codes "value") d >>= λ (value : AttributeValue). only_fields path (codes "edit" ∷ codes "start" ∷ codes "end" ∷ codes "path" ∷ codes "key"
    ∷ codes "value" ∷ []) d >>= λ (done : ⊤). Ok (SetAttribute target key value)) edit e in
    let key_step = step (name_field path (codes "key") d) (λ (key : List ℕ). value_field path (codes "value") d
    >>= λ (value : AttributeValue). only_fields path (codes "edit" ∷ codes "start" ∷ codes "end" ∷ codes "path" ∷ codes "key" ∷ codes "value" ∷ []) d
    >>= λ (done : ⊤). Ok (SetAttribute target_step.0 key value)) edit target_step.2 in
    let value_step = step (value_field path (codes "value") d)
    (λ (value : AttributeValue). only_fields path (codes "edit" ∷ codes "start" ∷ codes "end" ∷ codes "path" ∷ codes "key" ∷ codes "value" ∷ []) d
    >>= λ (done : ⊤). Ok (SetAttribute target_step.0 key_step.0 value)) edit key_step.2 in
    let done_step = step (only_fields path (codes "edit" ∷ codes "start" ∷ codes "end" ∷ codes "path" ∷ codes "key" ∷ codes "value" ∷ []) d)
    (λ (done : ⊤). Ok (SetAttribute target_step.0 key_step.0 value_step.0)) edit value_step.2 in
    subst (λ edit. is_written edit ≡ true) (same_ok (SetAttribute target_step.0 key_step.0 value_step.0) edit done_step.2)
    (both (is_target target_step.0) (is_name key_step.0 && is_value value_step.0) (target_kept path d target_step.0 target_step.1)
    (both (is_name key_step.0) (is_value value_step.0) (name_kept path (codes "key") d key_step.0 key_step.1)
    (value_kept path (codes "value") d value_step.0 h value_step.1)))

remove_attribute_kept : (path : List ℕ) (d : Data) (edit : Edit) → is_json d ≡ true → remove_attribute_at path d ≡ Ok edit → is_written edit ≡ true
unfolding remove_attribute_at
remove_attribute_kept path d edit h e =
    let target_step = step (target_at path d) (λ (target : Target). name_field path (codes "key") d >>= λ (key : List ℕ). only_fields path
    (codes "edit" ∷ codes "start" ∷ codes "end" ∷ codes "path" ∷ codes "key" ∷ []) d >>= λ (done : ⊤). Ok (RemoveAttribute target key)) edit e in
    let key_step = step (name_field path (codes "key") d)
    (λ (key : List ℕ). only_fields path (codes "edit" ∷ codes "start" ∷ codes "end" ∷ codes "path" ∷ codes "key" ∷ []) d
    >>= λ (done : ⊤). Ok (RemoveAttribute target_step.0 key)) edit target_step.2 in
    let done_step = step (only_fields path (codes "edit" ∷ codes "start" ∷ codes "end" ∷ codes "path" ∷ codes "key" ∷ []) d)
    (λ (done : ⊤). Ok (RemoveAttribute target_step.0 key_step.0)) edit key_step.2 in
    subst (λ edit. is_written edit ≡ true) (same_ok (RemoveAttribute target_step.0 key_step.0) edit done_step.2)
    (both (is_target target_step.0) (is_name key_step.0) (target_kept path d target_step.0 target_step.1)
    (name_kept path (codes "key") d key_step.0 key_step.1))

rename_kept : (path : List ℕ) (d : Data) (edit : Edit) → is_json d ≡ true → rename_at path d ≡ Ok edit → is_written edit ≡ true
unfolding rename_at
rename_kept path d edit h e =
    let element_step = step (path_field path (codes "path") d) (λ (element : List ℕ). name_field path (codes "name") d
    >>= λ (name : List ℕ). only_fields path (codes "edit" ∷ codes "path" ∷ codes "name" ∷ []) d >>= λ (done : ⊤). Ok (Rename element name)) edit e in
    let name_step = step (name_field path (codes "name") d) (λ (name : List ℕ). only_fields path (codes "edit" ∷ codes "path" ∷ codes "name" ∷ []) d
    >>= λ (done : ⊤). Ok (Rename element_step.0 name)) edit element_step.2 in
    let done_step = step (only_fields path (codes "edit" ∷ codes "path" ∷ codes "name" ∷ []) d) (λ (done : ⊤). Ok (Rename element_step.0 name_step.0))
    edit name_step.2 in
    subst (λ edit. is_written edit ≡ true) (same_ok (Rename element_step.0 name_step.0) edit done_step.2)
    (both (is_path element_step.0) (is_name name_step.0) (path_kept path (codes "path") d element_step.0 element_step.1)
    (name_kept path (codes "name") d name_step.0 name_step.1))

split_kept : (path : List ℕ) (d : Data) (edit : Edit) → is_json d ≡ true → split_at path d ≡ Ok edit → is_written edit ≡ true
unfolding split_at
split_kept path d edit h e =
    let at_step = step (position_field path (codes "at") d) (λ (at : List ℕ). only_fields path (codes "edit" ∷ codes "at" ∷ []) d
    >>= λ (done : ⊤). Ok (Split at)) edit e in
    let done_step = step (only_fields path (codes "edit" ∷ codes "at" ∷ []) d) (λ (done : ⊤). Ok (Split at_step.0)) edit at_step.2 in
    subst (λ edit. is_written edit ≡ true) (same_ok (Split at_step.0) edit done_step.2)
    (position_kept path (codes "at") d at_step.0 at_step.1)

merge_kept : (path : List ℕ) (d : Data) (edit : Edit) → is_json d ≡ true → merge_at path d ≡ Ok edit → is_written edit ≡ true
unfolding merge_at
merge_kept path d edit h e =
    let at_step = step (position_field path (codes "at") d) (λ (at : List ℕ). only_fields path (codes "edit" ∷ codes "at" ∷ []) d
    >>= λ (done : ⊤). Ok (Merge at)) edit e in
    let done_step = step (only_fields path (codes "edit" ∷ codes "at" ∷ []) d) (λ (done : ⊤). Ok (Merge at_step.0)) edit at_step.2 in
    subst (λ edit. is_written edit ≡ true) (same_ok (Merge at_step.0) edit done_step.2)
    (position_kept path (codes "at") d at_step.0 at_step.1)

wrap_kept : (path : List ℕ) (d : Data) (edit : Edit) → is_json d ≡ true → wrap_at path d ≡ Ok edit → is_written edit ≡ true
unfolding wrap_at
wrap_kept path d edit h e =
    let start_step = step (position_field path (codes "start") d) (λ (start : List ℕ). position_field path (codes "end") d
    >>= λ (end : List ℕ). name_field path (codes "name") d >>= λ (name : List ℕ). attributes_field path (codes "attributes") d
    >>= λ (attributes : List (List ℕ × AttributeValue)). only_fields path (codes "edit" ∷ codes "start" ∷ codes "end" ∷ codes "name"
    ∷ codes "attributes" ∷ []) d >>= λ (done : ⊤). Ok (Wrap start end name attributes)) edit e in
    let end_step = step (position_field path (codes "end") d) (λ (end : List ℕ). name_field path (codes "name") d
    >>= λ (name : List ℕ). attributes_field path (codes "attributes") d >>= λ (attributes : List (List ℕ × AttributeValue)). only_fields path
    (codes "edit" ∷ codes "start" ∷ codes "end" ∷ codes "name" ∷ codes "attributes" ∷ []) d
    >>= λ (done : ⊤). Ok (Wrap start_step.0 end name attributes)) edit start_step.2 in
    let name_step = step (name_field path (codes "name") d) (λ (name : List ℕ). attributes_field path (codes "attributes") d
    >>= λ (attributes : List (List ℕ × AttributeValue)). only_fields path (codes "edit" ∷ codes "start" ∷ codes "end" ∷ codes "name"
    ∷ codes "attributes" ∷ []) d >>= λ (done : ⊤). Ok (Wrap start_step.0 end_step.0 name attributes)) edit end_step.2 in
    let attributes_step = step (attributes_field path (codes "attributes") d)
    (λ (attributes : List (List ℕ × AttributeValue)). only_fields path (codes "edit" ∷ codes "start" ∷ codes "end" ∷ codes "name" ∷ codes "attributes"
    ∷ []) d >>= λ (done : ⊤). Ok (Wrap start_step.0 end_step.0 name_step.0 attributes)) edit name_step.2 in
    let done_step = step (only_fields path (codes "edit" ∷ codes "start" ∷ codes "end" ∷ codes "name" ∷ codes "attributes" ∷ []) d)
    (λ (done : ⊤). Ok (Wrap start_step.0 end_step.0 name_step.0 attributes_step.0)) edit attributes_step.2 in
    subst (λ edit. is_written edit ≡ true) (same_ok (Wrap start_step.0 end_step.0 name_step.0 attributes_step.0) edit done_step.2)
    (both (is_position start_step.0) (is_position end_step.0 && (is_name name_step.0 && are_attributes attributes_step.0))
    (position_kept path (codes "start") d start_step.0 start_step.1)
    (both (is_position end_step.0) (is_name name_step.0 && are_attributes attributes_step.0)
    (position_kept path (codes "end") d end_step.0 end_step.1)
    (both (is_name name_step.0) (are_attributes attributes_step.0) (name_kept path (codes "name") d name_step.0 name_step.1)
    (attributes_kept path (codes "attributes") d attributes_step.0 h attributes_step.1))))

unwrap_kept : (path : List ℕ) (d : Data) (edit : Edit) → is_json d ≡ true → unwrap_at path d ≡ Ok edit → is_written edit ≡ true
unfolding unwrap_at
unwrap_kept path d edit h e =
    let element_step = step (path_field path (codes "path") d) (λ (element : List ℕ). only_fields path (codes "edit" ∷ codes "path" ∷ []) d
    >>= λ (done : ⊤). Ok (Unwrap element)) edit e in
    let done_step = step (only_fields path (codes "edit" ∷ codes "path" ∷ []) d) (λ (done : ⊤). Ok (Unwrap element_step.0)) edit element_step.2 in
    subst (λ edit. is_written edit ≡ true) (same_ok (Unwrap element_step.0) edit done_step.2)
    (path_kept path (codes "path") d element_step.0 element_step.1)

add_marker_kept : (path : List ℕ) (d : Data) (edit : Edit) → is_json d ≡ true → add_marker_at path d ≡ Ok edit → is_written edit ≡ true
unfolding add_marker_at
add_marker_kept path d edit h e =
    let name_step = step (name_field path (codes "name") d) (λ (name : List ℕ). position_field path (codes "start") d
    >>= λ (start : List ℕ). position_field path (codes "end") d >>= λ (end : List ℕ). only_fields path
    (codes "edit" ∷ codes "name" ∷ codes "start" ∷ codes "end" ∷ []) d >>= λ (done : ⊤). Ok (AddMarker name start end)) edit e in
    let start_step = step (position_field path (codes "start") d) (λ (start : List ℕ). position_field path (codes "end") d
    >>= λ (end : List ℕ). only_fields path (codes "edit" ∷ codes "name" ∷ codes "start" ∷ codes "end" ∷ []) d
    >>= λ (done : ⊤). Ok (AddMarker name_step.0 start end)) edit name_step.2 in
    let end_step = step (position_field path (codes "end") d)
    (λ (end : List ℕ). only_fields path (codes "edit" ∷ codes "name" ∷ codes "start" ∷ codes "end" ∷ []) d
    >>= λ (done : ⊤). Ok (AddMarker name_step.0 start_step.0 end)) edit start_step.2 in
    let done_step = step (only_fields path (codes "edit" ∷ codes "name" ∷ codes "start" ∷ codes "end" ∷ []) d)
    (λ (done : ⊤). Ok (AddMarker name_step.0 start_step.0 end_step.0)) edit end_step.2 in
    subst (λ edit. is_written edit ≡ true) (same_ok (AddMarker name_step.0 start_step.0 end_step.0) edit done_step.2)
    (both (is_name name_step.0) (is_position start_step.0 && is_position end_step.0) (name_kept path (codes "name") d name_step.0 name_step.1)
    (both (is_position start_step.0) (is_position end_step.0) (position_kept path (codes "start") d start_step.0 start_step.1)
    (position_kept path (codes "end") d end_step.0 end_step.1)))

update_marker_kept : (path : List ℕ) (d : Data) (edit : Edit) → is_json d ≡ true → update_marker_at path d ≡ Ok edit → is_written edit ≡ true
unfolding update_marker_at
update_marker_kept path d edit h e =
    let name_step = step (name_field path (codes "name") d) (λ (name : List ℕ). position_field path (codes "start") d
    >>= λ (start : List ℕ). position_field path (codes "end") d >>= λ (end : List ℕ). only_fields path
    (codes "edit" ∷ codes "name" ∷ codes "start" ∷ codes "end" ∷ []) d >>= λ (done : ⊤). Ok (UpdateMarker name start end)) edit e in
    let start_step = step (position_field path (codes "start") d) (λ (start : List ℕ). position_field path (codes "end") d
    >>= λ (end : List ℕ). only_fields path (codes "edit" ∷ codes "name" ∷ codes "start" ∷ codes "end" ∷ []) d
    >>= λ (done : ⊤). Ok (UpdateMarker name_step.0 start end)) edit name_step.2 in
    let end_step = step (position_field path (codes "end") d)
    (λ (end : List ℕ). only_fields path (codes "edit" ∷ codes "name" ∷ codes "start" ∷ codes "end" ∷ []) d
    >>= λ (done : ⊤). Ok (UpdateMarker name_step.0 start_step.0 end)) edit start_step.2 in
    let done_step = step (only_fields path (codes "edit" ∷ codes "name" ∷ codes "start" ∷ codes "end" ∷ []) d)
    (λ (done : ⊤). Ok (UpdateMarker name_step.0 start_step.0 end_step.0)) edit end_step.2 in
    subst (λ edit. is_written edit ≡ true) (same_ok (UpdateMarker name_step.0 start_step.0 end_step.0) edit done_step.2)
    (both (is_name name_step.0) (is_position start_step.0 && is_position end_step.0) (name_kept path (codes "name") d name_step.0 name_step.1)
    (both (is_position start_step.0) (is_position end_step.0) (position_kept path (codes "start") d start_step.0 start_step.1)
    (position_kept path (codes "end") d end_step.0 end_step.1)))

remove_marker_kept : (path : List ℕ) (d : Data) (edit : Edit) → is_json d ≡ true → remove_marker_at path d ≡ Ok edit → is_written edit ≡ true
unfolding remove_marker_at
remove_marker_kept path d edit h e =
    let name_step = step (name_field path (codes "name") d) (λ (name : List ℕ). only_fields path (codes "edit" ∷ codes "name" ∷ []) d
    >>= λ (done : ⊤). Ok (RemoveMarker name)) edit e in
    let done_step = step (only_fields path (codes "edit" ∷ codes "name" ∷ []) d) (λ (done : ⊤). Ok (RemoveMarker name_step.0)) edit name_step.2 in
    subst (λ edit. is_written edit ≡ true) (same_ok (RemoveMarker name_step.0) edit done_step.2)
    (name_kept path (codes "name") d name_step.0 name_step.1)

select_kept : (path : List ℕ) (d : Data) (edit : Edit) → is_json d ≡ true → select_at path d ≡ Ok edit → is_written edit ≡ true
unfolding select_at
select_kept path d edit h e =
    let start_step = step (position_field path (codes "start") d) (λ (start : List ℕ). end_or path start d >>= λ (end : List ℕ). optional_truth path
    (codes "backward") d >>= λ (backward : Option Bool). only_fields path (codes "edit" ∷ codes "start" ∷ codes "end" ∷ codes "backward" ∷ []) d
    >>= λ (done : ⊤). Ok (Select start end (unwrap_or backward false))) edit e in
    let end_step = step (end_or path start_step.0 d) (λ (end : List ℕ). optional_truth path (codes "backward") d
    >>= λ (backward : Option Bool). only_fields path (codes "edit" ∷ codes "start" ∷ codes "end" ∷ codes "backward" ∷ []) d
    >>= λ (done : ⊤). Ok (Select start_step.0 end (unwrap_or backward false))) edit start_step.2 in
    let backward_step = step (optional_truth path (codes "backward") d)
    (λ (backward : Option Bool). only_fields path (codes "edit" ∷ codes "start" ∷ codes "end" ∷ codes "backward" ∷ []) d
    >>= λ (done : ⊤). Ok (Select start_step.0 end_step.0 (unwrap_or backward false))) edit end_step.2 in
    let done_step = step (only_fields path (codes "edit" ∷ codes "start" ∷ codes "end" ∷ codes "backward" ∷ []) d)
    (λ (done : ⊤). Ok (Select start_step.0 end_step.0 (unwrap_or backward_step.0 false))) edit backward_step.2 in
    subst (λ edit. is_written edit ≡ true) (same_ok (Select start_step.0 end_step.0 (unwrap_or backward_step.0 false)) edit done_step.2)
    (both (is_position start_step.0) (is_position end_step.0) (position_kept path (codes "start") d start_step.0 start_step.1)
    (end_kept path start_step.0 end_step.0 d (position_kept path (codes "start") d start_step.0 start_step.1) end_step.1))

selection_attribute_kept : (path : List ℕ) (d : Data) (edit : Edit) → is_json d ≡ true → selection_attribute_at path d ≡ Ok edit → is_written edit ≡ true
unfolding selection_attribute_at
selection_attribute_kept path d edit h e =
    let key_step = step (name_field path (codes "key") d) (λ (key : List ℕ). nullable_field path (codes "value") d
    >>= λ (value : Option AttributeValue). only_fields path (codes "edit" ∷ codes "key" ∷ codes "value" ∷ []) d
    >>= λ (done : ⊤). Ok (SelectionAttribute key value)) edit e in
    let value_step = step (nullable_field path (codes "value") d)
    (λ (value : Option AttributeValue). only_fields path (codes "edit" ∷ codes "key" ∷ codes "value" ∷ []) d
    >>= λ (done : ⊤). Ok (SelectionAttribute key_step.0 value)) edit key_step.2 in
    let done_step = step (only_fields path (codes "edit" ∷ codes "key" ∷ codes "value" ∷ []) d)
    (λ (done : ⊤). Ok (SelectionAttribute key_step.0 value_step.0)) edit value_step.2 in
    subst (λ edit. is_written edit ≡ true) (same_ok (SelectionAttribute key_step.0 value_step.0) edit done_step.2)
    (both (is_name key_step.0) (is_nullable value_step.0) (name_kept path (codes "key") d key_step.0 key_step.1)
    (nullable_kept path (codes "value") d value_step.0 h value_step.1))

beside_edit_of_kept : (kind path : List ℕ) (d : Data) (edit : Edit) → is_json d ≡ true → beside_edit_of kind path d ≡ Ok edit → is_written edit ≡ true
unfolding beside_edit_of
beside_edit_of_kept kind path d edit h e =
    let rest5 : Result Edit FormFault = Err (BadField (field_path path (codes "edit"))) in
    let rest4 : Result Edit FormFault = if bytes_eq kind (codes "selectionAttribute") then selection_attribute_at path d else rest5 in
    let rest3 : Result Edit FormFault = if bytes_eq kind (codes "select") then select_at path d else rest4 in
    let rest2 : Result Edit FormFault = if bytes_eq kind (codes "removeMarker") then remove_marker_at path d else rest3 in
    let rest1 : Result Edit FormFault = if bytes_eq kind (codes "updateMarker") then update_marker_at path d else rest2 in
    choose (bytes_eq kind (codes "addMarker")) (add_marker_at path d) rest1 edit (is_written edit ≡ true) (add_marker_kept path d edit h) (λ e.
    choose (bytes_eq kind (codes "updateMarker")) (update_marker_at path d) rest2 edit (is_written edit ≡ true) (update_marker_kept path d edit h) (λ e.
    choose (bytes_eq kind (codes "removeMarker")) (remove_marker_at path d) rest3 edit (is_written edit ≡ true) (remove_marker_kept path d edit h) (λ e.
    choose (bytes_eq kind (codes "select")) (select_at path d) rest4 edit (is_written edit ≡ true) (select_kept path d edit h) (λ e.
    choose (bytes_eq kind (codes "selectionAttribute")) (selection_attribute_at path d) rest5 edit (is_written edit ≡ true)
    (selection_attribute_kept path d edit h) (λ e.
    no_edit (BadField (field_path path (codes "edit"))) edit (is_written edit ≡ true) e) e) e) e) e) e

element_edit_of_kept : (kind path : List ℕ) (d : Data) (edit : Edit) → is_json d ≡ true → element_edit_of kind path d ≡ Ok edit → is_written edit ≡ true
unfolding element_edit_of
element_edit_of_kept kind path d edit h e =
    let rest5 : Result Edit FormFault = beside_edit_of kind path d in
    let rest4 : Result Edit FormFault = if bytes_eq kind (codes "unwrap") then unwrap_at path d else rest5 in
    let rest3 : Result Edit FormFault = if bytes_eq kind (codes "wrap") then wrap_at path d else rest4 in
    let rest2 : Result Edit FormFault = if bytes_eq kind (codes "merge") then merge_at path d else rest3 in
    let rest1 : Result Edit FormFault = if bytes_eq kind (codes "split") then split_at path d else rest2 in
    choose (bytes_eq kind (codes "rename")) (rename_at path d) rest1 edit (is_written edit ≡ true) (rename_kept path d edit h) (λ e.
    choose (bytes_eq kind (codes "split")) (split_at path d) rest2 edit (is_written edit ≡ true) (split_kept path d edit h) (λ e.
    choose (bytes_eq kind (codes "merge")) (merge_at path d) rest3 edit (is_written edit ≡ true) (merge_kept path d edit h) (λ e.
    choose (bytes_eq kind (codes "wrap")) (wrap_at path d) rest4 edit (is_written edit ≡ true) (wrap_kept path d edit h) (λ e.
    choose (bytes_eq kind (codes "unwrap")) (unwrap_at path d) rest5 edit (is_written edit ≡ true) (unwrap_kept path d edit h) (λ e.
    beside_edit_of_kept kind path d edit h e) e) e) e) e) e

edit_of_kept : (kind path : List ℕ) (d : Data) (edit : Edit) → is_json d ≡ true → edit_of kind path d ≡ Ok edit → is_written edit ≡ true
unfolding edit_of
edit_of_kept kind path d edit h e =
    let rest6 : Result Edit FormFault = element_edit_of kind path d in
    let rest5 : Result Edit FormFault = if bytes_eq kind (codes "removeAttribute") then remove_attribute_at path d else rest6 in
    let rest4 : Result Edit FormFault = if bytes_eq kind (codes "setAttribute") then set_attribute_at path d else rest5 in
    let rest3 : Result Edit FormFault = if bytes_eq kind (codes "move") then move_at path d else rest4 in
    let rest2 : Result Edit FormFault = if bytes_eq kind (codes "remove") then remove_at path d else rest3 in
    let rest1 : Result Edit FormFault = if bytes_eq kind (codes "insertElement") then insert_element_at path d else rest2 in
    choose (bytes_eq kind (codes "insertText")) (insert_text_at path d) rest1 edit (is_written edit ≡ true) (insert_text_kept path d edit h) (λ e.
    choose (bytes_eq kind (codes "insertElement")) (insert_element_at path d) rest2 edit (is_written edit ≡ true) (insert_element_kept path d edit h) (λ e.
    choose (bytes_eq kind (codes "remove")) (remove_at path d) rest3 edit (is_written edit ≡ true) (remove_kept path d edit h) (λ e.
    choose (bytes_eq kind (codes "move")) (move_at path d) rest4 edit (is_written edit ≡ true) (move_kept path d edit h) (λ e.
    choose (bytes_eq kind (codes "setAttribute")) (set_attribute_at path d) rest5 edit (is_written edit ≡ true) (set_attribute_kept path d edit h) (λ e.
    choose (bytes_eq kind (codes "removeAttribute")) (remove_attribute_at path d) rest6 edit (is_written edit ≡ true)
    (remove_attribute_kept path d edit h) (λ e.
    element_edit_of_kept kind path d edit h e) e) e) e) e) e) e

pub edit_kept : (path : List ℕ) (d : Data) (edit : Edit) → is_json d ≡ true → edit_at path d ≡ Ok edit → is_written edit ≡ true
unfolding edit_at
edit_kept path d edit h e =
    let whole = step (object_at path d) (λ (done : ⊤). text_field path (codes "edit") d >>= λ (kind : List ℕ). edit_of kind path d) edit e in
    let kind = step (text_field path (codes "edit") d) (λ (kind : List ℕ). edit_of kind path d) edit whole.2 in
    edit_of_kept kind.0 path d edit h kind.2
