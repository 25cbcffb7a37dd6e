use Rattle.std.proofs.Common.{refl}
use Rattle.std.specs.Str.{chars, is_utf8}
use Rattle.std.specs.Fmt.{digits}
use Rattle.serde_json.proofs.OnLiterals.{serde_json_on_literals}
use Rattle.ck_base.specs.Name.{is_name}
use Rattle.json_forms.specs.Form.{json_of, object_at, text_field, offsets_at, position_length_at, position_field, only_fields}
use Rattle.json_names.specs.Names.{name_field, optional_truth}
use Rattle.json_values.specs.Values.{value_at, value_field, nullable_at, nullable_field, attribute_at, attributes_from, attributes_field, path_field}
use Rattle.script_definitions.specs.Edits.{insert_text_at, range_target_at, element_target_at, target_at, set_attribute_at, remove_attribute_at, split_at}
use Rattle.script_definitions.specs.Edits.{merge_at, end_or, select_at, selection_attribute_at, beside_edit_of, element_edit_of, edit_of, edit_at, edits_at}
use Rattle.script_definitions.specs.Places.{numbers_at, place_field}
use Rattle.script_definitions.specs.Request.{change_of, select_view_of, show_of, form_of, request_of}
use Rattle.script_definitions.proofs.examples.lines.Goals as goal

pub returns-clause-no_edits : goal.returns-clause-no_edits
unfolding serde_json_on_literals chars is_utf8 digits is_name json_of object_at text_field offsets_at position_length_at position_field only_fields
    name_field optional_truth value_at value_field nullable_at nullable_field attribute_at attributes_from attributes_field path_field insert_text_at
    range_target_at element_target_at target_at set_attribute_at remove_attribute_at split_at merge_at end_or select_at selection_attribute_at
    beside_edit_of element_edit_of edit_of edit_at edits_at numbers_at place_field change_of select_view_of show_of form_of request_of
returns-clause-no_edits c = refl

pub returns-clause-no_list : goal.returns-clause-no_list
unfolding serde_json_on_literals chars is_utf8 digits is_name json_of object_at text_field offsets_at position_length_at position_field only_fields
    name_field optional_truth value_at value_field nullable_at nullable_field attribute_at attributes_from attributes_field path_field insert_text_at
    range_target_at element_target_at target_at set_attribute_at remove_attribute_at split_at merge_at end_or select_at selection_attribute_at
    beside_edit_of element_edit_of edit_of edit_at edits_at numbers_at place_field change_of select_view_of show_of form_of request_of
returns-clause-no_list c = refl

pub returns-clause-no_object : goal.returns-clause-no_object
unfolding serde_json_on_literals chars is_utf8 digits is_name json_of object_at text_field offsets_at position_length_at position_field only_fields
    name_field optional_truth value_at value_field nullable_at nullable_field attribute_at attributes_from attributes_field path_field insert_text_at
    range_target_at element_target_at target_at set_attribute_at remove_attribute_at split_at merge_at end_or select_at selection_attribute_at
    beside_edit_of element_edit_of edit_of edit_at edits_at numbers_at place_field change_of select_view_of show_of form_of request_of
returns-clause-no_object c = refl

pub returns-clause-other_edit : goal.returns-clause-other_edit
unfolding serde_json_on_literals chars is_utf8 digits is_name json_of object_at text_field offsets_at position_length_at position_field only_fields
    name_field optional_truth value_at value_field nullable_at nullable_field attribute_at attributes_from attributes_field path_field insert_text_at
    range_target_at element_target_at target_at set_attribute_at remove_attribute_at split_at merge_at end_or select_at selection_attribute_at
    beside_edit_of element_edit_of edit_of edit_at edits_at numbers_at place_field change_of select_view_of show_of form_of request_of
returns-clause-other_edit c = refl

pub returns-clause-further_field : goal.returns-clause-further_field
unfolding serde_json_on_literals chars is_utf8 digits is_name json_of object_at text_field offsets_at position_length_at position_field only_fields
    name_field optional_truth value_at value_field nullable_at nullable_field attribute_at attributes_from attributes_field path_field insert_text_at
    range_target_at element_target_at target_at set_attribute_at remove_attribute_at split_at merge_at end_or select_at selection_attribute_at
    beside_edit_of element_edit_of edit_of edit_at edits_at numbers_at place_field change_of select_view_of show_of form_of request_of
returns-clause-further_field c = refl

pub returns-clause-place : goal.returns-clause-place
unfolding serde_json_on_literals chars is_utf8 digits is_name json_of object_at text_field offsets_at position_length_at position_field only_fields
    name_field optional_truth value_at value_field nullable_at nullable_field attribute_at attributes_from attributes_field path_field insert_text_at
    range_target_at element_target_at target_at set_attribute_at remove_attribute_at split_at merge_at end_or select_at selection_attribute_at
    beside_edit_of element_edit_of edit_of edit_at edits_at numbers_at place_field change_of select_view_of show_of form_of request_of
returns-clause-place c = refl

pub returns-clause-no_place : goal.returns-clause-no_place
unfolding serde_json_on_literals chars is_utf8 digits is_name json_of object_at text_field offsets_at position_length_at position_field only_fields
    name_field optional_truth value_at value_field nullable_at nullable_field attribute_at attributes_from attributes_field path_field insert_text_at
    range_target_at element_target_at target_at set_attribute_at remove_attribute_at split_at merge_at end_or select_at selection_attribute_at
    beside_edit_of element_edit_of edit_of edit_at edits_at numbers_at place_field change_of select_view_of show_of form_of request_of
returns-clause-no_place c = refl

pub returns-clause-over : goal.returns-clause-over
unfolding serde_json_on_literals chars is_utf8 digits is_name json_of object_at text_field offsets_at position_length_at position_field only_fields
    name_field optional_truth value_at value_field nullable_at nullable_field attribute_at attributes_from attributes_field path_field insert_text_at
    range_target_at element_target_at target_at set_attribute_at remove_attribute_at split_at merge_at end_or select_at selection_attribute_at
    beside_edit_of element_edit_of edit_of edit_at edits_at numbers_at place_field change_of select_view_of show_of form_of request_of
returns-clause-over c = refl

pub returns-clause-other_form : goal.returns-clause-other_form
unfolding serde_json_on_literals chars is_utf8 digits is_name json_of object_at text_field offsets_at position_length_at position_field only_fields
    name_field optional_truth value_at value_field nullable_at nullable_field attribute_at attributes_from attributes_field path_field insert_text_at
    range_target_at element_target_at target_at set_attribute_at remove_attribute_at split_at merge_at end_or select_at selection_attribute_at
    beside_edit_of element_edit_of edit_of edit_at edits_at numbers_at place_field change_of select_view_of show_of form_of request_of
returns-clause-other_form c = refl

pub returns-clause-no_json : goal.returns-clause-no_json
unfolding serde_json_on_literals chars is_utf8 digits is_name json_of object_at text_field offsets_at position_length_at position_field only_fields
    name_field optional_truth value_at value_field nullable_at nullable_field attribute_at attributes_from attributes_field path_field insert_text_at
    range_target_at element_target_at target_at set_attribute_at remove_attribute_at split_at merge_at end_or select_at selection_attribute_at
    beside_edit_of element_edit_of edit_of edit_at edits_at numbers_at place_field change_of select_view_of show_of form_of request_of
returns-clause-no_json c = refl
