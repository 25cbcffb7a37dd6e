-- A settings file:
--     {"version":NUMBER,"rounds":COUNT,"start":NAME,"schema":[ENTRY,..],"checks":[CHECK,..],"fixers":[FIXER,..],
--     "converters":[CONVERTER,..]}
-- `version` is 1 or 2; in 2 converters may ask for the index of an element, and else the two say the same. `rounds` is from 1 to 1000, and 64 where
-- it isn't there; `start`, `checks` and `fixers` are optional too.
use Rattle.std.specs.Prelude.{ℕ, List, [], ◌∷◌, ◌++◌, Bool, ◌&&◌, ◌==◌, not, Option, Some, None, Result, Ok, Err, if◌then◌else◌, codes, option_and_then}
use Rattle.std.specs.Prelude.{option_map, unwrap_or}
use Rattle.std.specs.Option.{option_or}
use Rattle.serde_json.specs.Data.{Data}
use Rattle.serde_json.specs.Find.{get, as_array}
use Rattle.json_forms.specs.declared.fault.FormFault.{FormFault}
use Rattle.json_forms.specs.Form.{◌>>=◌, or_bad, json_of, object_at, only_fields, field_path}
use Rattle.json_names.specs.Names.{optional_name, count_field, optional_count}
use Rattle.schema_definitions.specs.declared.file.Entry.{Entry}
use Rattle.schema_definitions.specs.declared.file.Check.{Check}
use Rattle.schema_definitions.specs.Names.{has}
use Rattle.schema_definitions.specs.Allowed.{Rules, registrations, registered}
use Rattle.schema_definitions.specs.Compiled.{predefined, first_repeated, first_unknown, first_bad_check}
use Rattle.converter_definitions.specs.declared.plan.ConverterPlan.{ConverterPlan}
use Rattle.converter_forms.specs.ConverterForm.{converters_at}
use Rattle.converter_definitions.specs.PlanNames.{first_unknown_item, first_unknown_custom, first_without_converter}
use Rattle.converter_definitions.specs.Indexed.{indexed_names}
use Rattle.ck_base.specs.Name.{is_generic}
use Rattle.settings_definitions.specs.declared.fault.SettingsFault.{SettingsFault}
use Rattle.settings_definitions.specs.declared.fault.SettingsFault.TheVariants.{TwiceRegistered, UnknownItem, BadCheck, UnknownCustom, NoConverter}
use Rattle.settings_definitions.specs.Faults.{of_form}
use Rattle.settings_definitions.specs.SchemaForm.{entries_at, checks_at}
use Rattle.fix_definitions.specs.declared.plan.FixerPlan.{FixerPlan}
use Rattle.settings_definitions.specs.FixerForm.{fixers_at}
use Rattle.settings_definitions.specs.FixerNames.{first_unknown_of_fixers, first_unknown_custom_fixer}

-- what the file says
pub record Form : Type 0 where
  pub version : ℕ
  pub rounds : ℕ
  pub start : Option (List ℕ)
  pub entries : List Entry
  pub checks : List Check
  pub fixers : List FixerPlan
  pub converters : List ConverterPlan

-- the field `schema`
unfoldable pub entries_field : Data → Result (List Entry) FormFault
entries_field d = do
  items ← or_bad (field_path [] (codes "schema")) (option_and_then as_array (get (codes "schema") d))
  entries_at (field_path [] (codes "schema")) 0 items

-- the field `checks`
abbrev pub checks_if : Option Data → Result (List Check) FormFault
checks_if None = Ok []
checks_if (Some found) = or_bad (field_path [] (codes "checks")) (as_array found) >>= λ items. checks_at (field_path [] (codes "checks")) 0 items

-- the field `checks`: none where it isn't there
unfoldable pub checks_field : Data → Result (List Check) FormFault
checks_field d = checks_if (get (codes "checks") d)

-- the field `fixers`
abbrev pub fixers_if : Option Data → Result (List FixerPlan) FormFault
fixers_if None = Ok []
fixers_if (Some found) = or_bad (field_path [] (codes "fixers")) (as_array found) >>= λ items. fixers_at (field_path [] (codes "fixers")) 0 items

-- the field `fixers`: none where it isn't there
unfoldable pub fixers_field : Data → Result (List FixerPlan) FormFault
fixers_field d = fixers_if (get (codes "fixers") d)

-- the field `converters`
unfoldable pub converters_field : Bool → Data → Result (List ConverterPlan) FormFault
converters_field indexes d = do
  items ← or_bad (field_path [] (codes "converters")) (option_and_then as_array (get (codes "converters") d))
  converters_at indexes (field_path [] (codes "converters")) 0 items

-- the fields that a file may have
abbrev pub settings_fields : List (List ℕ)
settings_fields = codes "version" ∷ codes "rounds" ∷ codes "start" ∷ codes "schema" ∷ codes "checks" ∷ codes "fixers" ∷ codes "converters" ∷ []

-- in files of version 2 converters may ask for the index of an element
abbrev pub may_count : ℕ → Bool
may_count version = version == 2

-- what a value says, or the first place that breaks its form: the fields in this order, and then any other
unfoldable pub form_at : Data → Result Form FormFault
form_at d = do
  _ ← object_at [] d
  version ← count_field [] (codes "version") 1 2 d
  rounds ← optional_count [] (codes "rounds") 1 1000 d
  start ← optional_name [] (codes "start") d
  entries ← entries_field d
  checks ← checks_field d
  fixers ← fixers_field d
  converters ← converters_field (may_count version) d
  _ ← only_fields [] settings_fields d
  Ok (record { version = version; rounds = unwrap_or rounds 64; start = start; entries = entries; checks = checks; fixers = fixers; converters = converters })

-- what the file says, or the first place that breaks its form
unfoldable pub form_of : List ℕ → Result Form FormFault
form_of bytes = do
  d ← json_of bytes
  form_at d

-- the rules of its schema
abbrev pub rules_of : Form → Rules
rules_of form = record { entries = predefined ++ form.entries; checks = form.checks }

-- its registered items
abbrev pub items_of : Form → List (List ℕ)
items_of form = registrations (rules_of form).entries

-- the start, unless it is one of these registered items and doesn't begin with `$`
abbrev pub unknown_start : List (List ℕ) → Option (List ℕ) → Option (List ℕ)
unknown_start items None = None
unknown_start items (Some name) = if has items name && not (is_generic name) then None else Some name

-- the first name in the fixers and then in the converters that has to be one of these registered items and isn't
abbrev pub first_unknown_of_plans : List (List ℕ) → Form → Option (List ℕ)
first_unknown_of_plans items form = option_or (first_unknown_of_fixers items form.fixers) (first_unknown_item items form.converters)

-- the first name of a product's converter, and then of a product's fixer, that wasn't handed in or was used before by its kind
abbrev pub first_unknown_custom_plan : List (List ℕ) → List (List ℕ) → Form → Option (List ℕ)
first_unknown_custom_plan converters fixers form = option_or (first_unknown_custom converters form.converters)
    (first_unknown_custom_fixer fixers form.fixers)

-- why the converters and fixers are refused beside rules that hold, where products' converters and fixers of these names are handed in
abbrev pub plans_refusal : List (List ℕ) → List (List ℕ) → Rules → Form → Option SettingsFault
plans_refusal converters fixers rules form = option_or (option_map UnknownCustom (first_unknown_custom_plan converters fixers form))
    (option_map NoConverter (first_without_converter form.converters (registered rules)))

-- Why the file is refused, the first in this order. The names that have to be items are tested in the order of the file's fields, and the names of
-- products' converters before those of their fixers.
unfoldable pub refusal_of : List (List ℕ) → List (List ℕ) → Form → Option SettingsFault
refusal_of converters fixers form = option_or (option_map TwiceRegistered (first_repeated [] (items_of form)))
    (option_or (option_map UnknownItem (unknown_start (items_of form) form.start))
    (option_or (option_map UnknownItem (first_unknown (rules_of form)))
    (option_or (option_map UnknownItem (first_unknown_of_plans (items_of form) form))
    (option_or (option_map BadCheck (first_bad_check form.checks))
    (plans_refusal converters fixers (rules_of form) form)))))

-- the settings, with the names of the elements that are counted for the converters
pub record Settings : Type 0 where
  pub rules : Rules
  pub version : ℕ
  pub rounds : ℕ
  pub start : Option (List ℕ)
  pub fixers : List FixerPlan
  pub converters : List ConverterPlan
  pub indexed : List (List ℕ)

-- what a form says, as settings
abbrev pub settings_in : Form → Settings
settings_in form = record {
  rules = rules_of form;
  version = form.version;
  rounds = form.rounds;
  start = form.start;
  fixers = form.fixers;
  converters = form.converters;
  indexed = indexed_names form.converters;
}

-- the settings, unless there is a reason to refuse the form
abbrev pub unless_refused : Form → Option SettingsFault → Result Settings SettingsFault
unless_refused form None = Ok (settings_in form)
unless_refused form (Some fault) = Err fault

-- the settings of a form that was read, or why there are none
abbrev pub settings_from : List (List ℕ) → List (List ℕ) → Result Form FormFault → Result Settings SettingsFault
settings_from converters fixers (Err fault) = Err (of_form fault)
settings_from converters fixers (Ok form) = unless_refused form (refusal_of converters fixers form)

-- the settings of a file, where products' converters and fixers of these names are handed in, or why there are none
unfoldable pub settings_of : List (List ℕ) → List (List ℕ) → List ℕ → Result Settings SettingsFault
settings_of converters fixers bytes = settings_from converters fixers (form_of bytes)
