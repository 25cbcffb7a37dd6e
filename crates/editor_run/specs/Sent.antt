-- How far an output was written.
use Rattle.std.specs.Prelude.{◌≡◌, ℕ, List, ◌++◌, Option}
use Rattle.std.specs.Io.KnownBytes.{append_known}

-- From old to new all of the text was written but the rest.
abbrev pub SendsUpTo : Option (List ℕ) → Option (List ℕ) → List ℕ → List ℕ → Type 0
SendsUpTo old new all rest = (sent : List ℕ) × (new ≡ append_known old sent) × (sent ++ rest ≡ all)

-- From old to new a front of the text was written.
abbrev pub SendsFront : Option (List ℕ) → Option (List ℕ) → List ℕ → Type 0
SendsFront old new all = (rest : List ℕ) × SendsUpTo old new all rest
