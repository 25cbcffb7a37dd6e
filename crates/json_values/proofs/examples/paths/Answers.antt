use Rattle.std.proofs.Common.{refl}
use Rattle.std.specs.Str.{chars, is_utf8}
use Rattle.std.specs.Fmt.{digits}
use Rattle.serde_json.proofs.OnLiterals.{serde_json_on_literals}
use Rattle.ck_base.specs.Name.{is_name}
use Rattle.json_forms.specs.Form.{json_of, offsets_at, position_length_at, position_field}
use Rattle.json_values.specs.Values.{value_at, value_field, nullable_at, nullable_field, attribute_at, attributes_from, attributes_field, path_field}
use Rattle.json_values.proofs.examples.paths.Goals as goal

pub returns-clause-root : goal.returns-clause-root
unfolding serde_json_on_literals chars is_utf8 digits is_name json_of offsets_at position_length_at position_field value_at value_field nullable_at
    nullable_field attribute_at attributes_from attributes_field path_field
returns-clause-root c = refl

pub returns-clause-most : goal.returns-clause-most
unfolding serde_json_on_literals chars is_utf8 digits is_name json_of offsets_at position_length_at position_field value_at value_field nullable_at
    nullable_field attribute_at attributes_from attributes_field path_field
returns-clause-most c = refl

pub returns-clause-too_many : goal.returns-clause-too_many
unfolding serde_json_on_literals chars is_utf8 digits is_name json_of offsets_at position_length_at position_field value_at value_field nullable_at
    nullable_field attribute_at attributes_from attributes_field path_field
returns-clause-too_many c = refl

pub returns-clause-over : goal.returns-clause-over
unfolding serde_json_on_literals chars is_utf8 digits is_name json_of offsets_at position_length_at position_field value_at value_field nullable_at
    nullable_field attribute_at attributes_from attributes_field path_field
returns-clause-over c = refl

pub returns-clause-null : goal.returns-clause-null
unfolding serde_json_on_literals chars is_utf8 digits is_name json_of offsets_at position_length_at position_field value_at value_field nullable_at
    nullable_field attribute_at attributes_from attributes_field path_field
returns-clause-null c = refl
