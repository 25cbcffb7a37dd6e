-- What the tables of a schema say of its entries.
use Rattle.std.specs.Prelude.{◌≡◌, ℕ, List, Bool, take}
use Rattle.schema_definitions.specs.declared.file.Entry.{Entry}
use Rattle.schema_definitions.specs.declared.file.Flag.{Flag}
use Rattle.schema_definitions.specs.Allowed.{registrations}
use Rattle.schema_rules.specs.declared.flags.FlagMarks.{FlagMarks}
use Rattle.schema_rules.specs.Flags.{marks_of}
use Rattle.schema_rules.specs.Tables.{AreKnown, children_rows, key_rows, flag_row}

-- the tables of a schema say of each name what the relations of its entries say
pub record IsCompiled (entries : List Entry) (registered : ℕ) (names : List (List ℕ)) (children keys : List (List Bool)) (flags : FlagMarks) : Type 0 where
  -- the first names are the registered items
  pub items : take registered names ≡ registrations entries
  pub known : AreKnown names entries
  pub children_told : children ≡ children_rows names entries names
  pub keys_told : keys ≡ key_rows names entries names
  pub flags_told : (flag : Flag) → marks_of flags flag ≡ flag_row names entries flag
