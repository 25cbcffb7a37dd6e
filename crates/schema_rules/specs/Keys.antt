-- The attributes that entries list.
use Rattle.std.specs.Prelude.{ℕ, List}
use Rattle.schema_definitions.specs.declared.file.Entry.{Entry}

-- the attributes that an entry lists itself
abbrev pub own_keys : Entry → List (List ℕ)
own_keys entry = entry.allow_attributes
