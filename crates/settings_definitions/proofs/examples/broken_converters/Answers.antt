use Rattle.std.proofs.Common.{refl}
use Rattle.std.specs.Str.{chars, is_utf8}
use Rattle.std.specs.Fmt.{digits}
use Rattle.serde_json.proofs.OnLiterals.{serde_json_on_literals}
use Rattle.ck_base.specs.Name.{is_name}
use Rattle.json_forms.specs.Form.{json_of, object_at, field_at, only_fields}
use Rattle.json_names.specs.Names.{name_at, name_field, names_at, name_list_field, one_or_more, names_field, optional_name, truth_field, optional_truth}
use Rattle.json_names.specs.Names.{count_field, optional_count}
use Rattle.json_values.specs.Values.{attributes_field}
use Rattle.schema_definitions.specs.Allowed.{registered}
use Rattle.schema_definitions.specs.Compiled.{predefined, first_unknown, first_bad_check}
use Rattle.converter_forms.specs.PatternForm.{from_pattern, index_pattern, object_pattern, pattern_at, key_pattern_at, patterns_from, patterns_field}
use Rattle.converter_forms.specs.PriorityForm.{priority_field}
use Rattle.converter_forms.specs.ViewForm.{empty_type_field, element_view_at}
use Rattle.converter_forms.specs.ConverterForm.{only_element_fields, element_converter_at, index_field, only_indexed_fields, only_plain_fields}
use Rattle.converter_forms.specs.ConverterForm.{only_custom_fields, custom_converter_at, kind_of, kind_field, kind_converter_at, converter_at}
use Rattle.converter_forms.specs.ConverterForm.{converters_at}
use Rattle.settings_definitions.specs.SchemaForm.{subject_at, list_name, flag_name, list_at, flag_at, places_at, sources_at, flags_at, entry_of}
use Rattle.settings_definitions.specs.SchemaForm.{only_entry_fields, entry_at, entries_at, child_check_at, attribute_check_at, check_at, checks_at}
use Rattle.settings_definitions.specs.Settings.{entries_field, checks_field, fixers_field, converters_field, form_at, form_of, refusal_of, settings_of}
use Rattle.settings_definitions.proofs.examples.broken_converters.Goals as goal

pub returns-clause-no_converters : goal.returns-clause-no_converters
unfolding serde_json_on_literals chars is_utf8 digits is_name json_of object_at field_at only_fields name_at name_field names_at name_list_field one_or_more
    names_field optional_name truth_field optional_truth count_field optional_count attributes_field registered predefined first_unknown first_bad_check
    from_pattern index_pattern object_pattern pattern_at key_pattern_at patterns_from patterns_field priority_field empty_type_field element_view_at
    only_element_fields element_converter_at index_field only_indexed_fields only_plain_fields only_custom_fields custom_converter_at kind_of kind_field
    kind_converter_at converter_at converters_at subject_at list_name flag_name list_at flag_at places_at sources_at flags_at entry_of only_entry_fields
    entry_at entries_at child_check_at attribute_check_at check_at checks_at entries_field checks_field fixers_field converters_field form_at form_of
    refusal_of settings_of
returns-clause-no_converters c = refl

pub returns-clause-no_list : goal.returns-clause-no_list
unfolding serde_json_on_literals chars is_utf8 digits is_name json_of object_at field_at only_fields name_at name_field names_at name_list_field one_or_more
    names_field optional_name truth_field optional_truth count_field optional_count attributes_field registered predefined first_unknown first_bad_check
    from_pattern index_pattern object_pattern pattern_at key_pattern_at patterns_from patterns_field priority_field empty_type_field element_view_at
    only_element_fields element_converter_at index_field only_indexed_fields only_plain_fields only_custom_fields custom_converter_at kind_of kind_field
    kind_converter_at converter_at converters_at subject_at list_name flag_name list_at flag_at places_at sources_at flags_at entry_of only_entry_fields
    entry_at entries_at child_check_at attribute_check_at check_at checks_at entries_field checks_field fixers_field converters_field form_at form_of
    refusal_of settings_of
returns-clause-no_list c = refl

pub returns-clause-no_index : goal.returns-clause-no_index
unfolding serde_json_on_literals chars is_utf8 digits is_name json_of object_at field_at only_fields name_at name_field names_at name_list_field one_or_more
    names_field optional_name truth_field optional_truth count_field optional_count attributes_field registered predefined first_unknown first_bad_check
    from_pattern index_pattern object_pattern pattern_at key_pattern_at patterns_from patterns_field priority_field empty_type_field element_view_at
    only_element_fields element_converter_at index_field only_indexed_fields only_plain_fields only_custom_fields custom_converter_at kind_of kind_field
    kind_converter_at converter_at converters_at subject_at list_name flag_name list_at flag_at places_at sources_at flags_at entry_of only_entry_fields
    entry_at entries_at child_check_at attribute_check_at check_at checks_at entries_field checks_field fixers_field converters_field form_at form_of
    refusal_of settings_of
returns-clause-no_index c = refl

pub returns-clause-no_custom_index : goal.returns-clause-no_custom_index
unfolding serde_json_on_literals chars is_utf8 digits is_name json_of object_at field_at only_fields name_at name_field names_at name_list_field one_or_more
    names_field optional_name truth_field optional_truth count_field optional_count attributes_field registered predefined first_unknown first_bad_check
    from_pattern index_pattern object_pattern pattern_at key_pattern_at patterns_from patterns_field priority_field empty_type_field element_view_at
    only_element_fields element_converter_at index_field only_indexed_fields only_plain_fields only_custom_fields custom_converter_at kind_of kind_field
    kind_converter_at converter_at converters_at subject_at list_name flag_name list_at flag_at places_at sources_at flags_at entry_of only_entry_fields
    entry_at entries_at child_check_at attribute_check_at check_at checks_at entries_field checks_field fixers_field converters_field form_at form_of
    refusal_of settings_of
returns-clause-no_custom_index c = refl
