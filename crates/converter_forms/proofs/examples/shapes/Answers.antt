use Rattle.std.proofs.Common.{refl}
use Rattle.std.specs.Str.{chars, is_utf8}
use Rattle.std.specs.Fmt.{digits}
use Rattle.serde_json.proofs.OnLiterals.{serde_json_on_literals}
use Rattle.ck_base.specs.Name.{is_name}
use Rattle.json_forms.specs.Form.{json_of, object_at, field_at, only_fields}
use Rattle.json_names.specs.Names.{name_field, optional_name, truth_field, count_field}
use Rattle.json_values.specs.Values.{value_at, attribute_at, attributes_from, attributes_field}
use Rattle.converter_forms.specs.PatternForm.{from_pattern, index_pattern, object_pattern, pattern_at, key_pattern_at, patterns_from, patterns_field}
use Rattle.converter_forms.specs.PatternForm.{key_text_at, texts_from, texts_field}
use Rattle.converter_forms.specs.ShapeForm.{behind, inside, nodes_at, children_at, slot_field, slot_at, text_at, type_field, head_at, element_at}
use Rattle.converter_forms.specs.ShapeForm.{object_node_at, node_of, node_at, shape_at}
use Rattle.converter_forms.proofs.examples.shapes.Goals as goal

pub returns-clause-least : goal.returns-clause-least
unfolding serde_json_on_literals chars is_utf8 digits is_name json_of object_at field_at only_fields name_field optional_name truth_field count_field
    value_at attribute_at attributes_from attributes_field from_pattern index_pattern object_pattern pattern_at key_pattern_at patterns_from
    patterns_field key_text_at texts_from texts_field behind inside nodes_at children_at slot_field slot_at text_at type_field head_at element_at
    object_node_at node_of node_at shape_at
returns-clause-least c = refl

pub returns-clause-outermost_text : goal.returns-clause-outermost_text
unfolding serde_json_on_literals chars is_utf8 digits is_name json_of object_at field_at only_fields name_field optional_name truth_field count_field
    value_at attribute_at attributes_from attributes_field from_pattern index_pattern object_pattern pattern_at key_pattern_at patterns_from
    patterns_field key_text_at texts_from texts_field behind inside nodes_at children_at slot_field slot_at text_at type_field head_at element_at
    object_node_at node_of node_at shape_at
returns-clause-outermost_text c = refl

pub returns-clause-outermost_slot : goal.returns-clause-outermost_slot
unfolding serde_json_on_literals chars is_utf8 digits is_name json_of object_at field_at only_fields name_field optional_name truth_field count_field
    value_at attribute_at attributes_from attributes_field from_pattern index_pattern object_pattern pattern_at key_pattern_at patterns_from
    patterns_field key_text_at texts_from texts_field behind inside nodes_at children_at slot_field slot_at text_at type_field head_at element_at
    object_node_at node_of node_at shape_at
returns-clause-outermost_slot c = refl

pub returns-clause-outermost_empty : goal.returns-clause-outermost_empty
unfolding serde_json_on_literals chars is_utf8 digits is_name json_of object_at field_at only_fields name_field optional_name truth_field count_field
    value_at attribute_at attributes_from attributes_field from_pattern index_pattern object_pattern pattern_at key_pattern_at patterns_from
    patterns_field key_text_at texts_from texts_field behind inside nodes_at children_at slot_field slot_at text_at type_field head_at element_at
    object_node_at node_of node_at shape_at
returns-clause-outermost_empty c = refl

pub returns-clause-outermost_ui : goal.returns-clause-outermost_ui
unfolding serde_json_on_literals chars is_utf8 digits is_name json_of object_at field_at only_fields name_field optional_name truth_field count_field
    value_at attribute_at attributes_from attributes_field from_pattern index_pattern object_pattern pattern_at key_pattern_at patterns_from
    patterns_field key_text_at texts_from texts_field behind inside nodes_at children_at slot_field slot_at text_at type_field head_at element_at
    object_node_at node_of node_at shape_at
returns-clause-outermost_ui c = refl

pub returns-clause-own_fields_first : goal.returns-clause-own_fields_first
unfolding serde_json_on_literals chars is_utf8 digits is_name json_of object_at field_at only_fields name_field optional_name truth_field count_field
    value_at attribute_at attributes_from attributes_field from_pattern index_pattern object_pattern pattern_at key_pattern_at patterns_from
    patterns_field key_text_at texts_from texts_field behind inside nodes_at children_at slot_field slot_at text_at type_field head_at element_at
    object_node_at node_of node_at shape_at
returns-clause-own_fields_first c = refl

pub returns-clause-other_type : goal.returns-clause-other_type
unfolding serde_json_on_literals chars is_utf8 digits is_name json_of object_at field_at only_fields name_field optional_name truth_field count_field
    value_at attribute_at attributes_from attributes_field from_pattern index_pattern object_pattern pattern_at key_pattern_at patterns_from
    patterns_field key_text_at texts_from texts_field behind inside nodes_at children_at slot_field slot_at text_at type_field head_at element_at
    object_node_at node_of node_at shape_at
returns-clause-other_type c = refl

pub returns-clause-no_list : goal.returns-clause-no_list
unfolding serde_json_on_literals chars is_utf8 digits is_name json_of object_at field_at only_fields name_field optional_name truth_field count_field
    value_at attribute_at attributes_from attributes_field from_pattern index_pattern object_pattern pattern_at key_pattern_at patterns_from
    patterns_field key_text_at texts_from texts_field behind inside nodes_at children_at slot_field slot_at text_at type_field head_at element_at
    object_node_at node_of node_at shape_at
returns-clause-no_list c = refl

pub returns-clause-further : goal.returns-clause-further
unfolding serde_json_on_literals chars is_utf8 digits is_name json_of object_at field_at only_fields name_field optional_name truth_field count_field
    value_at attribute_at attributes_from attributes_field from_pattern index_pattern object_pattern pattern_at key_pattern_at patterns_from
    patterns_field key_text_at texts_from texts_field behind inside nodes_at children_at slot_field slot_at text_at type_field head_at element_at
    object_node_at node_of node_at shape_at
returns-clause-further c = refl

pub returns-clause-text : goal.returns-clause-text
unfolding serde_json_on_literals chars is_utf8 digits is_name json_of object_at field_at only_fields name_field optional_name truth_field count_field
    value_at attribute_at attributes_from attributes_field from_pattern index_pattern object_pattern pattern_at key_pattern_at patterns_from
    patterns_field key_text_at texts_from texts_field behind inside nodes_at children_at slot_field slot_at text_at type_field head_at element_at
    object_node_at node_of node_at shape_at
returns-clause-text c = refl

pub returns-clause-container_in_ui : goal.returns-clause-container_in_ui
unfolding serde_json_on_literals chars is_utf8 digits is_name json_of object_at field_at only_fields name_field optional_name truth_field count_field
    value_at attribute_at attributes_from attributes_field from_pattern index_pattern object_pattern pattern_at key_pattern_at patterns_from
    patterns_field key_text_at texts_from texts_field behind inside nodes_at children_at slot_field slot_at text_at type_field head_at element_at
    object_node_at node_of node_at shape_at
returns-clause-container_in_ui c = refl

pub returns-clause-child_of_empty : goal.returns-clause-child_of_empty
unfolding serde_json_on_literals chars is_utf8 digits is_name json_of object_at field_at only_fields name_field optional_name truth_field count_field
    value_at attribute_at attributes_from attributes_field from_pattern index_pattern object_pattern pattern_at key_pattern_at patterns_from
    patterns_field key_text_at texts_from texts_field behind inside nodes_at children_at slot_field slot_at text_at type_field head_at element_at
    object_node_at node_of node_at shape_at
returns-clause-child_of_empty c = refl

pub returns-clause-slot_in_ui : goal.returns-clause-slot_in_ui
unfolding serde_json_on_literals chars is_utf8 digits is_name json_of object_at field_at only_fields name_field optional_name truth_field count_field
    value_at attribute_at attributes_from attributes_field from_pattern index_pattern object_pattern pattern_at key_pattern_at patterns_from
    patterns_field key_text_at texts_from texts_field behind inside nodes_at children_at slot_field slot_at text_at type_field head_at element_at
    object_node_at node_of node_at shape_at
returns-clause-slot_in_ui c = refl

pub returns-clause-second_slot : goal.returns-clause-second_slot
unfolding serde_json_on_literals chars is_utf8 digits is_name json_of object_at field_at only_fields name_field optional_name truth_field count_field
    value_at attribute_at attributes_from attributes_field from_pattern index_pattern object_pattern pattern_at key_pattern_at patterns_from
    patterns_field key_text_at texts_from texts_field behind inside nodes_at children_at slot_field slot_at text_at type_field head_at element_at
    object_node_at node_of node_at shape_at
returns-clause-second_slot c = refl

pub returns-clause-false_slot : goal.returns-clause-false_slot
unfolding serde_json_on_literals chars is_utf8 digits is_name json_of object_at field_at only_fields name_field optional_name truth_field count_field
    value_at attribute_at attributes_from attributes_field from_pattern index_pattern object_pattern pattern_at key_pattern_at patterns_from
    patterns_field key_text_at texts_from texts_field behind inside nodes_at children_at slot_field slot_at text_at type_field head_at element_at
    object_node_at node_of node_at shape_at
returns-clause-false_slot c = refl

pub returns-clause-further_of_slot : goal.returns-clause-further_of_slot
unfolding serde_json_on_literals chars is_utf8 digits is_name json_of object_at field_at only_fields name_field optional_name truth_field count_field
    value_at attribute_at attributes_from attributes_field from_pattern index_pattern object_pattern pattern_at key_pattern_at patterns_from
    patterns_field key_text_at texts_from texts_field behind inside nodes_at children_at slot_field slot_at text_at type_field head_at element_at
    object_node_at node_of node_at shape_at
returns-clause-further_of_slot c = refl

pub returns-clause-number : goal.returns-clause-number
unfolding serde_json_on_literals chars is_utf8 digits is_name json_of object_at field_at only_fields name_field optional_name truth_field count_field
    value_at attribute_at attributes_from attributes_field from_pattern index_pattern object_pattern pattern_at key_pattern_at patterns_from
    patterns_field key_text_at texts_from texts_field behind inside nodes_at children_at slot_field slot_at text_at type_field head_at element_at
    object_node_at node_of node_at shape_at
returns-clause-number c = refl
