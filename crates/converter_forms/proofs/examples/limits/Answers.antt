use Rattle.std.proofs.Common.{refl}
use Rattle.std.specs.Str.{chars, is_utf8}
use Rattle.std.specs.Fmt.{digits}
use Rattle.serde_json.proofs.OnLiterals.{serde_json_on_literals}
use Rattle.ck_base.specs.Name.{is_name}
use Rattle.json_forms.specs.Form.{json_of, object_at, field_at, only_fields}
use Rattle.json_names.specs.Names.{name_field, optional_name, truth_field, count_field}
use Rattle.json_values.specs.Values.{value_at, attribute_at, attributes_from, attributes_field}
use Rattle.converter_forms.specs.PatternForm.{from_pattern, index_pattern, object_pattern, pattern_at, key_pattern_at, patterns_from, patterns_field}
use Rattle.converter_forms.specs.PatternForm.{key_text_at, texts_from, texts_field}
use Rattle.converter_forms.specs.ShapeForm.{behind, inside, nodes_at, children_at, slot_field, slot_at, text_at, type_field, head_at, element_at}
use Rattle.converter_forms.specs.ShapeForm.{object_node_at, node_of, node_at, shape_at}
use Rattle.converter_forms.proofs.examples.limits.Goals as goal

pub returns-clause-eight_levels : goal.returns-clause-eight_levels
unfolding serde_json_on_literals chars is_utf8 digits is_name json_of object_at field_at only_fields name_field optional_name truth_field count_field
    value_at attribute_at attributes_from attributes_field from_pattern index_pattern object_pattern pattern_at key_pattern_at patterns_from
    patterns_field key_text_at texts_from texts_field behind inside nodes_at children_at slot_field slot_at text_at type_field head_at element_at
    object_node_at node_of node_at shape_at
returns-clause-eight_levels c = refl

pub returns-clause-nine_levels : goal.returns-clause-nine_levels
unfolding serde_json_on_literals chars is_utf8 digits is_name json_of object_at field_at only_fields name_field optional_name truth_field count_field
    value_at attribute_at attributes_from attributes_field from_pattern index_pattern object_pattern pattern_at key_pattern_at patterns_from
    patterns_field key_text_at texts_from texts_field behind inside nodes_at children_at slot_field slot_at text_at type_field head_at element_at
    object_node_at node_of node_at shape_at
returns-clause-nine_levels c = refl

pub returns-clause-last_node : goal.returns-clause-last_node
unfolding serde_json_on_literals chars is_utf8 digits is_name json_of object_at field_at only_fields name_field optional_name truth_field count_field
    value_at attribute_at attributes_from attributes_field from_pattern index_pattern object_pattern pattern_at key_pattern_at patterns_from
    patterns_field key_text_at texts_from texts_field behind inside nodes_at children_at slot_field slot_at text_at type_field head_at element_at
    object_node_at node_of node_at shape_at
returns-clause-last_node c = refl

pub returns-clause-node_too_many : goal.returns-clause-node_too_many
unfolding serde_json_on_literals chars is_utf8 digits is_name json_of object_at field_at only_fields name_field optional_name truth_field count_field
    value_at attribute_at attributes_from attributes_field from_pattern index_pattern object_pattern pattern_at key_pattern_at patterns_from
    patterns_field key_text_at texts_from texts_field behind inside nodes_at children_at slot_field slot_at text_at type_field head_at element_at
    object_node_at node_of node_at shape_at
returns-clause-node_too_many c = refl
