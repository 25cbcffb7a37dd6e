-- The faults of forms and of schemas, as faults of settings.
use Rattle.json_forms.specs.declared.fault.FormFault.{FormFault}
use Rattle.json_forms.specs.declared.fault.FormFault.TheVariants.{NotJson, BadField, NoMemory}
use Rattle.schema_definitions.specs.declared.fault.SchemaFault.{SchemaFault}
use Rattle.schema_definitions.specs.declared.fault.SchemaFault.TheVariants.{TwiceRegistered, UnknownItem, BadCheck, NoMemory as NoMemoryForSchema}
use Rattle.settings_definitions.specs.declared.fault.SettingsFault.{SettingsFault}
use Rattle.settings_definitions.specs.declared.fault.SettingsFault.TheVariants.{NotJson as SettingsNotJson, BadField as SettingsBadField}
use Rattle.settings_definitions.specs.declared.fault.SettingsFault.TheVariants.{TwiceRegistered as SettingsTwice, UnknownItem as SettingsUnknown}
use Rattle.settings_definitions.specs.declared.fault.SettingsFault.TheVariants.{BadCheck as SettingsBadCheck, NoMemory as SettingsNoMemory}

-- the fault of a form
abbrev pub of_form : FormFault → SettingsFault
of_form NotJson = SettingsNotJson
of_form (BadField path) = SettingsBadField path
of_form NoMemory = SettingsNoMemory

-- the fault of a schema
abbrev pub of_schema : SchemaFault → SettingsFault
of_schema (TwiceRegistered name) = SettingsTwice name
of_schema (UnknownItem name) = SettingsUnknown name
of_schema (BadCheck n) = SettingsBadCheck n
of_schema NoMemoryForSchema = SettingsNoMemory
