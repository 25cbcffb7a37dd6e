-- The items that entries register, those from the start first.
use Rattle.std.proofs.Common.{◌≡◌, List, ◌++◌, refl}
use Rattle.schema_definitions.specs.declared.file.Entry.{Entry}
use Rattle.schema_definitions.specs.Allowed.{registrations}
use Rattle.schema_definitions.specs.Compiled.{predefined}

pub behind_predefined : (entries : List Entry) → registrations predefined ++ registrations entries ≡ registrations (predefined ++ entries)
unfolding predefined
behind_predefined entries = refl
