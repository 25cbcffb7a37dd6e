use Rattle.std.proofs.Common.{refl}
use Rattle.std.specs.Str.{chars, is_utf8}
use Rattle.std.specs.Fmt.{digits}
use Rattle.serde_json.proofs.OnLiterals.{serde_json_on_literals}
use Rattle.ck_base.specs.Name.{is_name}
use Rattle.json_forms.specs.Form.{json_of, object_at, only_fields}
use Rattle.json_names.specs.Names.{name_field, optional_name, count_field, optional_count}
use Rattle.settings_definitions.specs.SchemaForm.{entries_at}
use Rattle.settings_definitions.specs.FixerForm.{fixer_of_word, fill_at, join_at, remove_at, require_at, custom_fixer_at, object_fixer_at, fixer_at}
use Rattle.settings_definitions.specs.FixerForm.{fixers_at}
use Rattle.settings_definitions.specs.Settings.{entries_field, checks_field, fixers_field, converters_field, form_at, form_of}
use Rattle.settings_definitions.proofs.fixer_examples.broken.Goals as goal

pub returns-clause-null : goal.returns-clause-null
unfolding chars is_utf8 digits serde_json_on_literals is_name json_of object_at only_fields name_field optional_name count_field optional_count entries_at
    fixer_of_word fill_at join_at remove_at require_at custom_fixer_at object_fixer_at fixer_at fixers_at entries_field checks_field fixers_field
    converters_field form_at form_of
returns-clause-null c = refl

pub returns-clause-before_converters : goal.returns-clause-before_converters
unfolding chars is_utf8 digits serde_json_on_literals is_name json_of object_at only_fields name_field optional_name count_field optional_count entries_at
    fixer_of_word fill_at join_at remove_at require_at custom_fixer_at object_fixer_at fixer_at fixers_at entries_field checks_field fixers_field
    converters_field form_at form_of
returns-clause-before_converters c = refl

pub returns-clause-other_text : goal.returns-clause-other_text
unfolding chars is_utf8 digits serde_json_on_literals is_name json_of object_at only_fields name_field optional_name count_field optional_count entries_at
    fixer_of_word fill_at join_at remove_at require_at custom_fixer_at object_fixer_at fixer_at fixers_at entries_field checks_field fixers_field
    converters_field form_at form_of
returns-clause-other_text c = refl

pub returns-clause-no_object : goal.returns-clause-no_object
unfolding chars is_utf8 digits serde_json_on_literals is_name json_of object_at only_fields name_field optional_name count_field optional_count entries_at
    fixer_of_word fill_at join_at remove_at require_at custom_fixer_at object_fixer_at fixer_at fixers_at entries_field checks_field fixers_field
    converters_field form_at form_of
returns-clause-no_object c = refl

pub returns-clause-no_form : goal.returns-clause-no_form
unfolding chars is_utf8 digits serde_json_on_literals is_name json_of object_at only_fields name_field optional_name count_field optional_count entries_at
    fixer_of_word fill_at join_at remove_at require_at custom_fixer_at object_fixer_at fixer_at fixers_at entries_field checks_field fixers_field
    converters_field form_at form_of
returns-clause-no_form c = refl

pub returns-clause-no_first_field : goal.returns-clause-no_first_field
unfolding chars is_utf8 digits serde_json_on_literals is_name json_of object_at only_fields name_field optional_name count_field optional_count entries_at
    fixer_of_word fill_at join_at remove_at require_at custom_fixer_at object_fixer_at fixer_at fixers_at entries_field checks_field fixers_field
    converters_field form_at form_of
returns-clause-no_first_field c = refl

pub returns-clause-no_second_field : goal.returns-clause-no_second_field
unfolding chars is_utf8 digits serde_json_on_literals is_name json_of object_at only_fields name_field optional_name count_field optional_count entries_at
    fixer_of_word fill_at join_at remove_at require_at custom_fixer_at object_fixer_at fixer_at fixers_at entries_field checks_field fixers_field
    converters_field form_at form_of
returns-clause-no_second_field c = refl

pub returns-clause-no_child : goal.returns-clause-no_child
unfolding chars is_utf8 digits serde_json_on_literals is_name json_of object_at only_fields name_field optional_name count_field optional_count entries_at
    fixer_of_word fill_at join_at remove_at require_at custom_fixer_at object_fixer_at fixer_at fixers_at entries_field checks_field fixers_field
    converters_field form_at form_of
returns-clause-no_child c = refl

pub returns-clause-no_name : goal.returns-clause-no_name
unfolding chars is_utf8 digits serde_json_on_literals is_name json_of object_at only_fields name_field optional_name count_field optional_count entries_at
    fixer_of_word fill_at join_at remove_at require_at custom_fixer_at object_fixer_at fixer_at fixers_at entries_field checks_field fixers_field
    converters_field form_at form_of
returns-clause-no_name c = refl

pub returns-clause-no_neighbour : goal.returns-clause-no_neighbour
unfolding chars is_utf8 digits serde_json_on_literals is_name json_of object_at only_fields name_field optional_name count_field optional_count entries_at
    fixer_of_word fill_at join_at remove_at require_at custom_fixer_at object_fixer_at fixer_at fixers_at entries_field checks_field fixers_field
    converters_field form_at form_of
returns-clause-no_neighbour c = refl

pub returns-clause-no_element : goal.returns-clause-no_element
unfolding chars is_utf8 digits serde_json_on_literals is_name json_of object_at only_fields name_field optional_name count_field optional_count entries_at
    fixer_of_word fill_at join_at remove_at require_at custom_fixer_at object_fixer_at fixer_at fixers_at entries_field checks_field fixers_field
    converters_field form_at form_of
returns-clause-no_element c = refl

pub returns-clause-empty_name : goal.returns-clause-empty_name
unfolding chars is_utf8 digits serde_json_on_literals is_name json_of object_at only_fields name_field optional_name count_field optional_count entries_at
    fixer_of_word fill_at join_at remove_at require_at custom_fixer_at object_fixer_at fixer_at fixers_at entries_field checks_field fixers_field
    converters_field form_at form_of
returns-clause-empty_name c = refl

pub returns-clause-two_forms : goal.returns-clause-two_forms
unfolding chars is_utf8 digits serde_json_on_literals is_name json_of object_at only_fields name_field optional_name count_field optional_count entries_at
    fixer_of_word fill_at join_at remove_at require_at custom_fixer_at object_fixer_at fixer_at fixers_at entries_field checks_field fixers_field
    converters_field form_at form_of
returns-clause-two_forms c = refl

pub returns-clause-later_form : goal.returns-clause-later_form
unfolding chars is_utf8 digits serde_json_on_literals is_name json_of object_at only_fields name_field optional_name count_field optional_count entries_at
    fixer_of_word fill_at join_at remove_at require_at custom_fixer_at object_fixer_at fixer_at fixers_at entries_field checks_field fixers_field
    converters_field form_at form_of
returns-clause-later_form c = refl

pub returns-clause-other_field : goal.returns-clause-other_field
unfolding chars is_utf8 digits serde_json_on_literals is_name json_of object_at only_fields name_field optional_name count_field optional_count entries_at
    fixer_of_word fill_at join_at remove_at require_at custom_fixer_at object_fixer_at fixer_at fixers_at entries_field checks_field fixers_field
    converters_field form_at form_of
returns-clause-other_field c = refl
