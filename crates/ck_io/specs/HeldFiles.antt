-- Files in memory.
use Rattle.std.specs.Prelude.{ℕ, List, map, Option, String, string_bytes, Vec}
use Rattle.std.specs.Global.{Global}
use Rattle.std.specs.Str.{bytes_eq}
use Rattle.std.specs.Map.{lookup}
use Rattle.ck_io.specs.PlannedCalls.{PlannedCalls}

-- the names with their bytes, and the calls
pub record HeldFiles : Type 0 where
  pub held : List (List ℕ × List ℕ)
  pub calls : PlannedCalls

-- the bytes of the first file of that name
abbrev pub held_as : List (List ℕ × List ℕ) → List ℕ → Option (List ℕ)
held_as files name = lookup (bytes_eq name) files

-- texts and vectors as lists
abbrev pub files_of : List (String Global × Vec ℕ Global) → List (List ℕ × List ℕ)
files_of files = map (λ file. (string_bytes file.0, file.1.items)) files
