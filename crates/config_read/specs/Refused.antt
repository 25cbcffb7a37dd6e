-- Why settings are refused, and the settings as the definitions see them.
use Rattle.std.specs.Prelude.{◌≡◌, ◌≢◌, Option, Some, None, Result, Ok, Err}
use Rattle.settings_definitions.specs.declared.fault.SettingsFault.{SettingsFault}
use Rattle.settings_definitions.specs.declared.fault.SettingsFault.TheVariants.{NoMemory}
use Rattle.settings_definitions.specs.Settings as meant
use Rattle.config_read.specs.declared.settings.Settings.{Settings}

-- the answer is a fault exactly where there is this reason, and then this fault, unless memory ran out
abbrev pub Refuses : {X : Type 0} → Result X SettingsFault → Option SettingsFault → Type 0
Refuses (Ok x) reason = reason ≡ None
Refuses (Err fault) reason = fault ≢ NoMemory → reason ≡ Some fault

-- the settings as the definitions see them
abbrev pub settings_view : Settings → meant.Settings
settings_view settings = record {
  rules = settings.schema;
  version = settings.version;
  rounds = settings.rounds;
  start = settings.start;
  fixers = settings.fixers.items;
  converters = settings.converters.items;
  indexed = settings.indexed.items;
}
