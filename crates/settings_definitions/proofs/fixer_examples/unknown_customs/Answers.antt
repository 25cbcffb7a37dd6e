use Rattle.std.proofs.Common.{refl}
use Rattle.std.specs.Str.{chars, is_utf8}
use Rattle.std.specs.Fmt.{digits}
use Rattle.serde_json.proofs.OnLiterals.{serde_json_on_literals}
use Rattle.ck_base.specs.Name.{is_name}
use Rattle.json_forms.specs.Form.{json_of, object_at, field_at, only_fields}
use Rattle.json_names.specs.Names.{name_at, name_field, name_list_field, names_at, truth_field, optional_truth, names_field, optional_name, count_field}
use Rattle.json_names.specs.Names.{optional_count}
use Rattle.json_values.specs.Values.{attributes_field}
use Rattle.schema_definitions.specs.Allowed.{registered}
use Rattle.schema_definitions.specs.Compiled.{predefined, first_unknown, first_bad_check}
use Rattle.converter_forms.specs.PatternForm.{patterns_field}
use Rattle.converter_forms.specs.PriorityForm.{priority_field}
use Rattle.converter_forms.specs.ViewForm.{empty_type_field, element_view_at}
use Rattle.converter_forms.specs.ConverterForm.{only_element_fields, element_converter_at, index_field, only_plain_fields, only_custom_fields}
use Rattle.converter_forms.specs.ConverterForm.{custom_converter_at, kind_of, kind_field, kind_converter_at, converter_at, converters_at}
use Rattle.settings_definitions.specs.SchemaForm.{subject_at, list_name, flag_name, list_at, flag_at, places_at, sources_at, flags_at, entry_of}
use Rattle.settings_definitions.specs.SchemaForm.{only_entry_fields, entry_at, entries_at, child_check_at, check_at, checks_at}
use Rattle.settings_definitions.specs.FixerForm.{fixer_of_word, fill_at, join_at, remove_at, require_at, custom_fixer_at, object_fixer_at, fixer_at}
use Rattle.settings_definitions.specs.FixerForm.{fixers_at}
use Rattle.settings_definitions.specs.Settings.{entries_field, checks_field, fixers_field, converters_field, form_at, form_of, refusal_of, settings_of}
use Rattle.settings_definitions.proofs.fixer_examples.unknown_customs.Goals as goal

pub returns-clause-not_handed_in : goal.returns-clause-not_handed_in
unfolding chars is_utf8 digits serde_json_on_literals is_name json_of object_at field_at only_fields name_at name_field name_list_field names_at truth_field
    optional_truth names_field optional_name count_field optional_count attributes_field registered predefined first_unknown first_bad_check patterns_field
    priority_field empty_type_field element_view_at only_element_fields element_converter_at index_field only_plain_fields only_custom_fields
    custom_converter_at kind_of kind_field kind_converter_at converter_at converters_at subject_at list_name flag_name list_at flag_at places_at sources_at
    flags_at entry_of only_entry_fields entry_at entries_at child_check_at check_at checks_at fixer_of_word fill_at join_at remove_at require_at
    custom_fixer_at object_fixer_at fixer_at fixers_at entries_field checks_field fixers_field converters_field form_at form_of refusal_of settings_of
returns-clause-not_handed_in c = refl

pub returns-clause-of_the_other_kind : goal.returns-clause-of_the_other_kind
unfolding chars is_utf8 digits serde_json_on_literals is_name json_of object_at field_at only_fields name_at name_field name_list_field names_at truth_field
    optional_truth names_field optional_name count_field optional_count attributes_field registered predefined first_unknown first_bad_check patterns_field
    priority_field empty_type_field element_view_at only_element_fields element_converter_at index_field only_plain_fields only_custom_fields
    custom_converter_at kind_of kind_field kind_converter_at converter_at converters_at subject_at list_name flag_name list_at flag_at places_at sources_at
    flags_at entry_of only_entry_fields entry_at entries_at child_check_at check_at checks_at fixer_of_word fill_at join_at remove_at require_at
    custom_fixer_at object_fixer_at fixer_at fixers_at entries_field checks_field fixers_field converters_field form_at form_of refusal_of settings_of
returns-clause-of_the_other_kind c = refl

pub returns-clause-used_twice : goal.returns-clause-used_twice
unfolding chars is_utf8 digits serde_json_on_literals is_name json_of object_at field_at only_fields name_at name_field name_list_field names_at truth_field
    optional_truth names_field optional_name count_field optional_count attributes_field registered predefined first_unknown first_bad_check patterns_field
    priority_field empty_type_field element_view_at only_element_fields element_converter_at index_field only_plain_fields only_custom_fields
    custom_converter_at kind_of kind_field kind_converter_at converter_at converters_at subject_at list_name flag_name list_at flag_at places_at sources_at
    flags_at entry_of only_entry_fields entry_at entries_at child_check_at check_at checks_at fixer_of_word fill_at join_at remove_at require_at
    custom_fixer_at object_fixer_at fixer_at fixers_at entries_field checks_field fixers_field converters_field form_at form_of refusal_of settings_of
returns-clause-used_twice c = refl

pub returns-clause-converters_first : goal.returns-clause-converters_first
unfolding chars is_utf8 digits serde_json_on_literals is_name json_of object_at field_at only_fields name_at name_field name_list_field names_at truth_field
    optional_truth names_field optional_name count_field optional_count attributes_field registered predefined first_unknown first_bad_check patterns_field
    priority_field empty_type_field element_view_at only_element_fields element_converter_at index_field only_plain_fields only_custom_fields
    custom_converter_at kind_of kind_field kind_converter_at converter_at converters_at subject_at list_name flag_name list_at flag_at places_at sources_at
    flags_at entry_of only_entry_fields entry_at entries_at child_check_at check_at checks_at fixer_of_word fill_at join_at remove_at require_at
    custom_fixer_at object_fixer_at fixer_at fixers_at entries_field checks_field fixers_field converters_field form_at form_of refusal_of settings_of
returns-clause-converters_first c = refl

pub returns-clause-before_converters_that_lack : goal.returns-clause-before_converters_that_lack
unfolding chars is_utf8 digits serde_json_on_literals is_name json_of object_at field_at only_fields name_at name_field name_list_field names_at truth_field
    optional_truth names_field optional_name count_field optional_count attributes_field registered predefined first_unknown first_bad_check patterns_field
    priority_field empty_type_field element_view_at only_element_fields element_converter_at index_field only_plain_fields only_custom_fields
    custom_converter_at kind_of kind_field kind_converter_at converter_at converters_at subject_at list_name flag_name list_at flag_at places_at sources_at
    flags_at entry_of only_entry_fields entry_at entries_at child_check_at check_at checks_at fixer_of_word fill_at join_at remove_at require_at
    custom_fixer_at object_fixer_at fixer_at fixers_at entries_field checks_field fixers_field converters_field form_at form_of refusal_of settings_of
returns-clause-before_converters_that_lack c = refl

pub returns-clause-one_name_of_both_kinds : goal.returns-clause-one_name_of_both_kinds
unfolding chars is_utf8 digits serde_json_on_literals is_name json_of object_at field_at only_fields name_at name_field name_list_field names_at truth_field
    optional_truth names_field optional_name count_field optional_count attributes_field registered predefined first_unknown first_bad_check patterns_field
    priority_field empty_type_field element_view_at only_element_fields element_converter_at index_field only_plain_fields only_custom_fields
    custom_converter_at kind_of kind_field kind_converter_at converter_at converters_at subject_at list_name flag_name list_at flag_at places_at sources_at
    flags_at entry_of only_entry_fields entry_at entries_at child_check_at check_at checks_at fixer_of_word fill_at join_at remove_at require_at
    custom_fixer_at object_fixer_at fixer_at fixers_at entries_field checks_field fixers_field converters_field form_at form_of refusal_of settings_of
returns-clause-one_name_of_both_kinds c = refl
