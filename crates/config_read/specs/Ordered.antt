-- The faults of a schema with the names beside it that have to be items: that of the start, which stands before the names of the schema, and
-- those of the fixers and the converters, which stand behind them.
use Rattle.std.specs.Prelude.{ℕ, List, Option, Some, None}
use Rattle.std.specs.Option.{option_or}
use Rattle.schema_definitions.specs.declared.fault.SchemaFault.{SchemaFault}
use Rattle.schema_definitions.specs.declared.fault.SchemaFault.TheVariants.{TwiceRegistered, UnknownItem, BadCheck, NoMemory}
use Rattle.settings_definitions.specs.declared.fault.SettingsFault.{SettingsFault}
use Rattle.settings_definitions.specs.declared.fault.SettingsFault.TheVariants.{UnknownItem as UnknownName}
use Rattle.settings_definitions.specs.Faults.{of_schema}

-- the fault of a name, if there is one, or else the schema's
abbrev pub named_first : Option (List ℕ) → SchemaFault → SettingsFault
named_first None fault = of_schema fault
named_first (Some name) fault = UnknownName name

-- The first fault: an item that is registered twice comes before all names, and a check without ancestors behind them.
abbrev pub ordered : Option (List ℕ) → Option (List ℕ) → SchemaFault → SettingsFault
ordered start plan_name (TwiceRegistered name) = of_schema (TwiceRegistered name)
ordered start plan_name (UnknownItem name) = named_first start (UnknownItem name)
ordered start plan_name (BadCheck count) = named_first (option_or start plan_name) (BadCheck count)
ordered start plan_name NoMemory = of_schema NoMemory
