use Rattle.std.proofs.Common.{refl}
use Rattle.std.specs.Str.{chars, is_utf8}
use Rattle.std.specs.Fmt.{digits}
use Rattle.serde_json.proofs.OnLiterals.{serde_json_on_literals}
use Rattle.ck_base.specs.Name.{is_name}
use Rattle.json_forms.specs.Form.{json_of, offsets_at, position_length_at, position_field}
use Rattle.json_values.specs.Values.{value_at, value_field, nullable_at, nullable_field, attribute_at, attributes_from, attributes_field, path_field}
use Rattle.json_values.proofs.examples.attributes.Goals as goal

pub returns-clause-absent : goal.returns-clause-absent
unfolding serde_json_on_literals chars is_utf8 digits is_name json_of offsets_at position_length_at position_field value_at value_field nullable_at
    nullable_field attribute_at attributes_from attributes_field path_field
returns-clause-absent c = refl

pub returns-clause-null : goal.returns-clause-null
unfolding serde_json_on_literals chars is_utf8 digits is_name json_of offsets_at position_length_at position_field value_at value_field nullable_at
    nullable_field attribute_at attributes_from attributes_field path_field
returns-clause-null c = refl

pub returns-clause-ordered : goal.returns-clause-ordered
unfolding serde_json_on_literals chars is_utf8 digits is_name json_of offsets_at position_length_at position_field value_at value_field nullable_at
    nullable_field attribute_at attributes_from attributes_field path_field
returns-clause-ordered c = refl

pub returns-clause-other_name : goal.returns-clause-other_name
unfolding serde_json_on_literals chars is_utf8 digits is_name json_of offsets_at position_length_at position_field value_at value_field nullable_at
    nullable_field attribute_at attributes_from attributes_field path_field
returns-clause-other_name c = refl

pub returns-clause-other_value : goal.returns-clause-other_value
unfolding serde_json_on_literals chars is_utf8 digits is_name json_of offsets_at position_length_at position_field value_at value_field nullable_at
    nullable_field attribute_at attributes_from attributes_field path_field
returns-clause-other_value c = refl
