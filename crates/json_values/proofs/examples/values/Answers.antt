use Rattle.std.proofs.Common.{refl}
use Rattle.std.specs.Str.{chars, is_utf8}
use Rattle.std.specs.Fmt.{digits}
use Rattle.serde_json.proofs.OnLiterals.{serde_json_on_literals}
use Rattle.ck_base.specs.Name.{is_name}
use Rattle.json_forms.specs.Form.{json_of, offsets_at, position_length_at, position_field}
use Rattle.json_values.specs.Values.{value_at, value_field, nullable_at, nullable_field, attribute_at, attributes_from, attributes_field, path_field}
use Rattle.json_values.proofs.examples.values.Goals as goal

pub returns-clause-truth : goal.returns-clause-truth
unfolding serde_json_on_literals chars is_utf8 digits is_name json_of offsets_at position_length_at position_field value_at value_field nullable_at
    nullable_field attribute_at attributes_from attributes_field path_field
returns-clause-truth c = refl

pub returns-clause-text : goal.returns-clause-text
unfolding serde_json_on_literals chars is_utf8 digits is_name json_of offsets_at position_length_at position_field value_at value_field nullable_at
    nullable_field attribute_at attributes_from attributes_field path_field
returns-clause-text c = refl

pub returns-clause-greatest : goal.returns-clause-greatest
unfolding serde_json_on_literals chars is_utf8 digits is_name json_of offsets_at position_length_at position_field value_at value_field nullable_at
    nullable_field attribute_at attributes_from attributes_field path_field
returns-clause-greatest c = refl

pub returns-clause-over : goal.returns-clause-over
unfolding serde_json_on_literals chars is_utf8 digits is_name json_of offsets_at position_length_at position_field value_at value_field nullable_at
    nullable_field attribute_at attributes_from attributes_field path_field
returns-clause-over c = refl

pub returns-clause-least : goal.returns-clause-least
unfolding serde_json_on_literals chars is_utf8 digits is_name json_of offsets_at position_length_at position_field value_at value_field nullable_at
    nullable_field attribute_at attributes_from attributes_field path_field
returns-clause-least c = refl

pub returns-clause-negative_zero : goal.returns-clause-negative_zero
unfolding serde_json_on_literals chars is_utf8 digits is_name json_of offsets_at position_length_at position_field value_at value_field nullable_at
    nullable_field attribute_at attributes_from attributes_field path_field
returns-clause-negative_zero c = refl

pub returns-clause-with_a_point : goal.returns-clause-with_a_point
unfolding serde_json_on_literals chars is_utf8 digits is_name json_of offsets_at position_length_at position_field value_at value_field nullable_at
    nullable_field attribute_at attributes_from attributes_field path_field
returns-clause-with_a_point c = refl

pub returns-clause-null : goal.returns-clause-null
unfolding serde_json_on_literals chars is_utf8 digits is_name json_of offsets_at position_length_at position_field value_at value_field nullable_at
    nullable_field attribute_at attributes_from attributes_field path_field
returns-clause-null c = refl

pub returns-clause-list : goal.returns-clause-list
unfolding serde_json_on_literals chars is_utf8 digits is_name json_of offsets_at position_length_at position_field value_at value_field nullable_at
    nullable_field attribute_at attributes_from attributes_field path_field
returns-clause-list c = refl

pub returns-clause-nothing : goal.returns-clause-nothing
unfolding serde_json_on_literals chars is_utf8 digits is_name json_of offsets_at position_length_at position_field value_at value_field nullable_at
    nullable_field attribute_at attributes_from attributes_field path_field
returns-clause-nothing c = refl

pub returns-clause-something : goal.returns-clause-something
unfolding serde_json_on_literals chars is_utf8 digits is_name json_of offsets_at position_length_at position_field value_at value_field nullable_at
    nullable_field attribute_at attributes_from attributes_field path_field
returns-clause-something c = refl
