use Rattle.std.proofs.Common.{refl}
use Rattle.std.specs.Str.{chars, is_utf8}
use Rattle.std.specs.Fmt.{digits}
use Rattle.serde_json.proofs.OnLiterals.{serde_json_on_literals}
use Rattle.ck_base.specs.Name.{is_name}
use Rattle.json_forms.specs.Form.{json_of, object_at, only_fields}
use Rattle.json_names.specs.Names.{name_field}
use Rattle.settings_definitions.specs.FixerForm.{fixer_of_word, fill_at, join_at, remove_at, require_at, custom_fixer_at, object_fixer_at, fixer_at}
use Rattle.settings_definitions.specs.FixerForm.{fixers_at}
use Rattle.settings_definitions.proofs.fixer_examples.forms.Goals as goal

pub returns-clause-none : goal.returns-clause-none
unfolding chars is_utf8 digits serde_json_on_literals is_name json_of object_at only_fields name_field fixer_of_word fill_at join_at remove_at require_at
    custom_fixer_at object_fixer_at fixer_at fixers_at
returns-clause-none c = refl

pub returns-clause-texts : goal.returns-clause-texts
unfolding chars is_utf8 digits serde_json_on_literals is_name json_of object_at only_fields name_field fixer_of_word fill_at join_at remove_at require_at
    custom_fixer_at object_fixer_at fixer_at fixers_at
returns-clause-texts c = refl

pub returns-clause-fill : goal.returns-clause-fill
unfolding chars is_utf8 digits serde_json_on_literals is_name json_of object_at only_fields name_field fixer_of_word fill_at join_at remove_at require_at
    custom_fixer_at object_fixer_at fixer_at fixers_at
returns-clause-fill c = refl

pub returns-clause-join : goal.returns-clause-join
unfolding chars is_utf8 digits serde_json_on_literals is_name json_of object_at only_fields name_field fixer_of_word fill_at join_at remove_at require_at
    custom_fixer_at object_fixer_at fixer_at fixers_at
returns-clause-join c = refl

pub returns-clause-remove : goal.returns-clause-remove
unfolding chars is_utf8 digits serde_json_on_literals is_name json_of object_at only_fields name_field fixer_of_word fill_at join_at remove_at require_at
    custom_fixer_at object_fixer_at fixer_at fixers_at
returns-clause-remove c = refl

pub returns-clause-require : goal.returns-clause-require
unfolding chars is_utf8 digits serde_json_on_literals is_name json_of object_at only_fields name_field fixer_of_word fill_at join_at remove_at require_at
    custom_fixer_at object_fixer_at fixer_at fixers_at
returns-clause-require c = refl

pub returns-clause-custom : goal.returns-clause-custom
unfolding chars is_utf8 digits serde_json_on_literals is_name json_of object_at only_fields name_field fixer_of_word fill_at join_at remove_at require_at
    custom_fixer_at object_fixer_at fixer_at fixers_at
returns-clause-custom c = refl
