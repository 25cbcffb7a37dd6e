use Rattle.std.proofs.Common.{refl}
use Rattle.std.specs.Str.{chars, is_utf8}
use Rattle.std.specs.Fmt.{digits}
use Rattle.serde_json.proofs.OnLiterals.{serde_json_on_literals}
use Rattle.ck_base.specs.Name.{is_name}
use Rattle.json_forms.specs.Form.{json_of, object_at, field_at, only_fields}
use Rattle.json_names.specs.Names.{name_field, optional_name, truth_field, count_field}
use Rattle.json_values.specs.Values.{value_at, attribute_at, attributes_from, attributes_field}
use Rattle.converter_forms.specs.PatternForm.{from_pattern, index_pattern, object_pattern, pattern_at, key_pattern_at, patterns_from, patterns_field}
use Rattle.converter_forms.specs.PatternForm.{key_text_at, texts_from, texts_field}
use Rattle.converter_forms.specs.PriorityForm.{priority_field, layer_priority_field}
use Rattle.converter_forms.specs.ViewForm.{empty_type_field, element_view_at, only_layer_fields, layer_view_at, optional_pattern, attribute_view_at}
use Rattle.converter_forms.specs.ViewForm.{highlight_name_field, highlight_view_at, leaf_at}
use Rattle.converter_forms.specs.ShapeForm.{behind, inside, nodes_at, children_at, slot_field, slot_at, text_at, type_field, head_at, element_at}
use Rattle.converter_forms.specs.ShapeForm.{object_node_at, node_of, node_at, shape_at}
use Rattle.converter_forms.specs.ConverterForm.{only_element_fields, element_converter_at, structure_converter_at, optional_value, layer_converter_at}
use Rattle.converter_forms.specs.ConverterForm.{is_index_view, element_field, attribute_converter_at, only_marker_fields, highlight_converter_at}
use Rattle.converter_forms.specs.ConverterForm.{leaf_converter_at, index_field, only_indexed_fields, only_plain_fields, only_custom_fields}
use Rattle.converter_forms.specs.ConverterForm.{custom_converter_at, kind_of, kind_field, kind_converter_at, converter_at, converters_at}
use Rattle.converter_forms.proofs.examples.others.Goals as goal

pub returns-clause-highlight : goal.returns-clause-highlight
unfolding serde_json_on_literals chars is_utf8 digits is_name json_of object_at field_at only_fields name_field optional_name truth_field count_field
    value_at attribute_at attributes_from attributes_field from_pattern index_pattern object_pattern pattern_at key_pattern_at patterns_from
    patterns_field key_text_at texts_from texts_field priority_field layer_priority_field empty_type_field element_view_at only_layer_fields layer_view_at
    optional_pattern attribute_view_at highlight_name_field highlight_view_at leaf_at behind inside nodes_at children_at slot_field slot_at text_at
    type_field head_at element_at object_node_at node_of node_at shape_at only_element_fields element_converter_at structure_converter_at optional_value
    layer_converter_at is_index_view element_field attribute_converter_at only_marker_fields highlight_converter_at leaf_converter_at index_field
    only_indexed_fields only_plain_fields only_custom_fields custom_converter_at kind_of kind_field kind_converter_at converter_at converters_at
returns-clause-highlight c = refl

pub returns-clause-leaf : goal.returns-clause-leaf
unfolding serde_json_on_literals chars is_utf8 digits is_name json_of object_at field_at only_fields name_field optional_name truth_field count_field
    value_at attribute_at attributes_from attributes_field from_pattern index_pattern object_pattern pattern_at key_pattern_at patterns_from
    patterns_field key_text_at texts_from texts_field priority_field layer_priority_field empty_type_field element_view_at only_layer_fields layer_view_at
    optional_pattern attribute_view_at highlight_name_field highlight_view_at leaf_at behind inside nodes_at children_at slot_field slot_at text_at
    type_field head_at element_at object_node_at node_of node_at shape_at only_element_fields element_converter_at structure_converter_at optional_value
    layer_converter_at is_index_view element_field attribute_converter_at only_marker_fields highlight_converter_at leaf_converter_at index_field
    only_indexed_fields only_plain_fields only_custom_fields custom_converter_at kind_of kind_field kind_converter_at converter_at converters_at
returns-clause-leaf c = refl

pub returns-clause-custom : goal.returns-clause-custom
unfolding serde_json_on_literals chars is_utf8 digits is_name json_of object_at field_at only_fields name_field optional_name truth_field count_field
    value_at attribute_at attributes_from attributes_field from_pattern index_pattern object_pattern pattern_at key_pattern_at patterns_from
    patterns_field key_text_at texts_from texts_field priority_field layer_priority_field empty_type_field element_view_at only_layer_fields layer_view_at
    optional_pattern attribute_view_at highlight_name_field highlight_view_at leaf_at behind inside nodes_at children_at slot_field slot_at text_at
    type_field head_at element_at object_node_at node_of node_at shape_at only_element_fields element_converter_at structure_converter_at optional_value
    layer_converter_at is_index_view element_field attribute_converter_at only_marker_fields highlight_converter_at leaf_converter_at index_field
    only_indexed_fields only_plain_fields only_custom_fields custom_converter_at kind_of kind_field kind_converter_at converter_at converters_at
returns-clause-custom c = refl

pub returns-clause-counted : goal.returns-clause-counted
unfolding serde_json_on_literals chars is_utf8 digits is_name json_of object_at field_at only_fields name_field optional_name truth_field count_field
    value_at attribute_at attributes_from attributes_field from_pattern index_pattern object_pattern pattern_at key_pattern_at patterns_from
    patterns_field key_text_at texts_from texts_field priority_field layer_priority_field empty_type_field element_view_at only_layer_fields layer_view_at
    optional_pattern attribute_view_at highlight_name_field highlight_view_at leaf_at behind inside nodes_at children_at slot_field slot_at text_at
    type_field head_at element_at object_node_at node_of node_at shape_at only_element_fields element_converter_at structure_converter_at optional_value
    layer_converter_at is_index_view element_field attribute_converter_at only_marker_fields highlight_converter_at leaf_converter_at index_field
    only_indexed_fields only_plain_fields only_custom_fields custom_converter_at kind_of kind_field kind_converter_at converter_at converters_at
returns-clause-counted c = refl

pub returns-clause-list : goal.returns-clause-list
unfolding serde_json_on_literals chars is_utf8 digits is_name json_of object_at field_at only_fields name_field optional_name truth_field count_field
    value_at attribute_at attributes_from attributes_field from_pattern index_pattern object_pattern pattern_at key_pattern_at patterns_from
    patterns_field key_text_at texts_from texts_field priority_field layer_priority_field empty_type_field element_view_at only_layer_fields layer_view_at
    optional_pattern attribute_view_at highlight_name_field highlight_view_at leaf_at behind inside nodes_at children_at slot_field slot_at text_at
    type_field head_at element_at object_node_at node_of node_at shape_at only_element_fields element_converter_at structure_converter_at optional_value
    layer_converter_at is_index_view element_field attribute_converter_at only_marker_fields highlight_converter_at leaf_converter_at index_field
    only_indexed_fields only_plain_fields only_custom_fields custom_converter_at kind_of kind_field kind_converter_at converter_at converters_at
returns-clause-list c = refl
