use Rattle.std.proofs.Common.{refl}
use Rattle.std.specs.Str.{chars, is_utf8}
use Rattle.std.specs.Fmt.{digits}
use Rattle.serde_json.proofs.OnLiterals.{serde_json_on_literals}
use Rattle.json_forms.specs.Form.{json_of, object_at, text_field, offsets_at, position_length_at, position_field, only_fields, word_field}
use Rattle.json_names.specs.Names.{optional_truth}
use Rattle.json_values.specs.Values.{attributes_field}
use Rattle.schema_definitions.specs.Allowed.{check_child, child_answer, check_attribute, attribute_answer}
use Rattle.schema_definitions.specs.Rules.{children_of, keys_of}
use Rattle.schema_definitions.specs.Reachable.{reachable}
use Rattle.schema_definitions.specs.Compiled.{predefined}
use Rattle.breach_definitions.specs.Breach.{breach, broken_rule}
use Rattle.script_definitions.specs.Edits.{insert_text_at, beside_edit_of, edit_of, edit_at, edits_at}
use Rattle.script_definitions.specs.Places.{numbers_at, place_field}
use Rattle.script_definitions.specs.Request.{change_of, select_view_of, show_of, form_of, request_of}
use Rattle.machine_definitions.specs.Texts.{printed_scalar, quoted_scalar}
use Rattle.machine_definitions.specs.Refusals.{refusal_text}
use Rattle.print_definitions.specs.SelectionText.{marker_line, direction, selection_line}
use Rattle.program_definitions.specs.Machine.{accepted_line, refused_line, both_lines, answer, answers}
use Rattle.program_definitions.proofs.examples.clicks.Goals as goal

pub returns : goal.returns
unfolding serde_json_on_literals chars is_utf8 digits json_of object_at text_field offsets_at position_length_at position_field only_fields word_field
    optional_truth attributes_field check_child child_answer check_attribute attribute_answer children_of keys_of reachable predefined breach broken_rule
    insert_text_at beside_edit_of edit_of edit_at edits_at numbers_at place_field change_of select_view_of show_of form_of request_of printed_scalar
    quoted_scalar refusal_text marker_line direction selection_line accepted_line refused_line both_lines answer answers
returns c = record { shown = refl; clicked = refl; nowhere = refl }
