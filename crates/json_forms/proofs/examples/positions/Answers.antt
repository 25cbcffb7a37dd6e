use Rattle.std.proofs.Common.{refl}
use Rattle.std.specs.Str.{chars, is_utf8}
use Rattle.std.specs.Fmt.{digits}
use Rattle.serde_json.proofs.OnLiterals.{serde_json_on_literals}
use Rattle.json_forms.specs.Form.{json_of, object_at, offsets_at, position_length_at, position_field, only_fields}
use Rattle.json_forms.proofs.examples.positions.Goals as goal

pub returns-clause-greatest : goal.returns-clause-greatest
unfolding serde_json_on_literals chars is_utf8 digits json_of object_at offsets_at position_length_at position_field only_fields
returns-clause-greatest c = refl

pub returns-clause-over : goal.returns-clause-over
unfolding serde_json_on_literals chars is_utf8 digits json_of object_at offsets_at position_length_at position_field only_fields
returns-clause-over c = refl

pub returns-clause-negative_zero : goal.returns-clause-negative_zero
unfolding serde_json_on_literals chars is_utf8 digits json_of object_at offsets_at position_length_at position_field only_fields
returns-clause-negative_zero c = refl

pub returns-clause-below_zero : goal.returns-clause-below_zero
unfolding serde_json_on_literals chars is_utf8 digits json_of object_at offsets_at position_length_at position_field only_fields
returns-clause-below_zero c = refl

pub returns-clause-with_a_point : goal.returns-clause-with_a_point
unfolding serde_json_on_literals chars is_utf8 digits json_of object_at offsets_at position_length_at position_field only_fields
returns-clause-with_a_point c = refl

pub returns-clause-with_an_exponent : goal.returns-clause-with_an_exponent
unfolding serde_json_on_literals chars is_utf8 digits json_of object_at offsets_at position_length_at position_field only_fields
returns-clause-with_an_exponent c = refl
