-- The printed texts of the faults of settings: the fault's name, and its field behind a blank.
use Rattle.std.specs.Prelude.{ℕ, List, ◌++◌, codes}
use Rattle.std.specs.Fmt.{decimal}
use Rattle.machine_definitions.specs.Texts.{quoted_text}
use Rattle.settings_definitions.specs.declared.fault.SettingsFault.{SettingsFault}
use Rattle.settings_definitions.specs.declared.fault.SettingsFault.TheVariants.{NotJson, BadField, TwiceRegistered, UnknownItem, BadCheck, UnknownCustom}
use Rattle.settings_definitions.specs.declared.fault.SettingsFault.TheVariants.{NoConverter, NoMemory}

-- want of memory is never printed
unfoldable pub settings_text : SettingsFault → List ℕ
settings_text NotJson = codes "NotJson"
settings_text (BadField path) = codes "BadField " ++ quoted_text path
settings_text (TwiceRegistered name) = codes "TwiceRegistered " ++ name
settings_text (UnknownItem name) = codes "UnknownItem " ++ name
settings_text (BadCheck count) = codes "BadCheck " ++ decimal count
settings_text (UnknownCustom name) = codes "UnknownCustom " ++ name
settings_text (NoConverter name) = codes "NoConverter " ++ name
settings_text NoMemory = codes "NoMemory"
