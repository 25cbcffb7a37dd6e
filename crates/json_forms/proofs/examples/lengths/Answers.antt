use Rattle.std.proofs.Common.{refl}
use Rattle.std.specs.Str.{chars, is_utf8}
use Rattle.std.specs.Fmt.{digits}
use Rattle.serde_json.proofs.OnLiterals.{serde_json_on_literals}
use Rattle.json_forms.specs.Form.{json_of, object_at, offsets_at, position_length_at, position_field, only_fields}
use Rattle.json_forms.proofs.examples.lengths.Goals as goal

pub returns-clause-none : goal.returns-clause-none
unfolding serde_json_on_literals chars is_utf8 digits json_of object_at offsets_at position_length_at position_field only_fields
returns-clause-none c = refl

pub returns-clause-most : goal.returns-clause-most
unfolding serde_json_on_literals chars is_utf8 digits json_of object_at offsets_at position_length_at position_field only_fields
returns-clause-most c = refl

pub returns-clause-too_many : goal.returns-clause-too_many
unfolding serde_json_on_literals chars is_utf8 digits json_of object_at offsets_at position_length_at position_field only_fields
returns-clause-too_many c = refl

pub returns-clause-no_number : goal.returns-clause-no_number
unfolding serde_json_on_literals chars is_utf8 digits json_of object_at offsets_at position_length_at position_field only_fields
returns-clause-no_number c = refl

pub returns-clause-no_list : goal.returns-clause-no_list
unfolding serde_json_on_literals chars is_utf8 digits json_of object_at offsets_at position_length_at position_field only_fields
returns-clause-no_list c = refl

pub returns-clause-absent : goal.returns-clause-absent
unfolding serde_json_on_literals chars is_utf8 digits json_of object_at offsets_at position_length_at position_field only_fields
returns-clause-absent c = refl
