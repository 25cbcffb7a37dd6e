-- The keys of an object that aren't among given names.
use Rattle.std.specs.Prelude.{ℕ, List, Bool, not, String, string_bytes}
use Rattle.std.specs.Global.{Global}
use Rattle.std.specs.Borrow.{Bor}
use Rattle.std.specs.Str.{bytes_eq}
use Rattle.std.specs.List.{list_any}

-- whether a key is none of the names
abbrev pub is_other : List (Bor (List ℕ)) → String Global → Bool
is_other names key = not (list_any (λ name. bytes_eq name.now (string_bytes key)) names)
