use Rattle.std.proofs.Common.{refl}
use Rattle.std.specs.Str.{chars, is_utf8}
use Rattle.std.specs.Fmt.{digits}
use Rattle.serde_json.proofs.OnLiterals.{serde_json_on_literals}
use Rattle.ck_base.specs.Name.{is_name}
use Rattle.json_forms.specs.Form.{json_of, object_at, field_at, only_fields}
use Rattle.json_names.specs.Names.{name_field, optional_name, truth_field, count_field}
use Rattle.json_values.specs.Values.{value_at, attribute_at, attributes_from, attributes_field}
use Rattle.converter_forms.specs.PriorityForm.{priority_field, layer_priority_field}
use Rattle.converter_forms.proofs.examples.priorities.Goals as goal

pub returns-clause-greatest : goal.returns-clause-greatest
unfolding serde_json_on_literals chars is_utf8 digits is_name json_of object_at field_at only_fields name_field optional_name truth_field count_field
    value_at attribute_at attributes_from attributes_field priority_field layer_priority_field
returns-clause-greatest c = refl

pub returns-clause-least : goal.returns-clause-least
unfolding serde_json_on_literals chars is_utf8 digits is_name json_of object_at field_at only_fields name_field optional_name truth_field count_field
    value_at attribute_at attributes_from attributes_field priority_field layer_priority_field
returns-clause-least c = refl

pub returns-clause-over : goal.returns-clause-over
unfolding serde_json_on_literals chars is_utf8 digits is_name json_of object_at field_at only_fields name_field optional_name truth_field count_field
    value_at attribute_at attributes_from attributes_field priority_field layer_priority_field
returns-clause-over c = refl

pub returns-clause-below : goal.returns-clause-below
unfolding serde_json_on_literals chars is_utf8 digits is_name json_of object_at field_at only_fields name_field optional_name truth_field count_field
    value_at attribute_at attributes_from attributes_field priority_field layer_priority_field
returns-clause-below c = refl

pub returns-clause-word : goal.returns-clause-word
unfolding serde_json_on_literals chars is_utf8 digits is_name json_of object_at field_at only_fields name_field optional_name truth_field count_field
    value_at attribute_at attributes_from attributes_field priority_field layer_priority_field
returns-clause-word c = refl

pub returns-clause-fraction : goal.returns-clause-fraction
unfolding serde_json_on_literals chars is_utf8 digits is_name json_of object_at field_at only_fields name_field optional_name truth_field count_field
    value_at attribute_at attributes_from attributes_field priority_field layer_priority_field
returns-clause-fraction c = refl

pub returns-clause-null : goal.returns-clause-null
unfolding serde_json_on_literals chars is_utf8 digits is_name json_of object_at field_at only_fields name_field optional_name truth_field count_field
    value_at attribute_at attributes_from attributes_field priority_field layer_priority_field
returns-clause-null c = refl

pub returns-clause-absent : goal.returns-clause-absent
unfolding serde_json_on_literals chars is_utf8 digits is_name json_of object_at field_at only_fields name_field optional_name truth_field count_field
    value_at attribute_at attributes_from attributes_field priority_field layer_priority_field
returns-clause-absent c = refl
