use Rattle.std.proofs.Common.{refl}
use Rattle.std.specs.Str.{chars, is_utf8}
use Rattle.std.specs.Fmt.{digits}
use Rattle.serde_json.proofs.OnLiterals.{serde_json_on_literals}
use Rattle.json_forms.specs.Form.{json_of, object_at, offsets_at, position_length_at, position_field, only_fields}
use Rattle.json_forms.proofs.examples.lines.Goals as goal

pub returns-clause-cut_off : goal.returns-clause-cut_off
unfolding serde_json_on_literals chars is_utf8 digits json_of object_at offsets_at position_length_at position_field only_fields
returns-clause-cut_off c = refl

pub returns-clause-no_utf8 : goal.returns-clause-no_utf8
unfolding serde_json_on_literals chars is_utf8 digits json_of object_at offsets_at position_length_at position_field only_fields
returns-clause-no_utf8 c = refl

pub returns-clause-no_object : goal.returns-clause-no_object
unfolding serde_json_on_literals chars is_utf8 digits json_of object_at offsets_at position_length_at position_field only_fields
returns-clause-no_object c = refl

pub returns-clause-twice : goal.returns-clause-twice
unfolding serde_json_on_literals chars is_utf8 digits json_of object_at offsets_at position_length_at position_field only_fields
returns-clause-twice c = refl

pub returns-clause-others : goal.returns-clause-others
unfolding serde_json_on_literals chars is_utf8 digits json_of object_at offsets_at position_length_at position_field only_fields
returns-clause-others c = refl
