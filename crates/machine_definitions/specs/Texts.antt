-- The escapes of printed texts, and printed paths.
use Rattle.std.specs.Prelude.{ℕ, List, [], ◌∷◌, ◌++◌, ◌==◌, ◌||◌, Bool, nat_lt, if◌then◌else◌, codes, encode_utf8}
use Rattle.std.specs.List.{flat_map}
use Rattle.std.specs.Fmt.{decimal}

-- a code below 32, or 127
abbrev pub is_control : ℕ → Bool
is_control scalar = nat_lt scalar 32 || scalar == 127

-- a character by its code's number, as HTML writes it
abbrev pub by_number : ℕ → List ℕ
by_number scalar = codes "&#" ++ (decimal scalar ++ codes ";")

-- the characters that are written by their numbers: the marks of a selection, and control characters
abbrev pub is_by_number : ℕ → Bool
is_by_number scalar = scalar == 91 || scalar == 93 || scalar == 123 || scalar == 125 || is_control scalar

-- how a character of a text is printed: `&`, `<` and `>` by name, `[`, `]`, `{`, `}` and control characters by number
unfoldable pub printed_scalar : ℕ → List ℕ
printed_scalar scalar = if scalar == 38 then codes "&amp;"
    else (if scalar == 60 then codes "&lt;"
    else (if scalar == 62 then codes "&gt;"
    else (if is_by_number scalar then by_number scalar else encode_utf8 scalar)))

-- a text, each of its Unicode scalar values as it is printed
abbrev pub printed_text : List ℕ → List ℕ
printed_text scalars = flat_map printed_scalar scalars

-- how a character of a quoted text is printed
unfoldable pub quoted_scalar : ℕ → List ℕ
quoted_scalar scalar = if scalar == 34 then codes "&quot;" else printed_scalar scalar

-- a text as it is printed in quotes
abbrev pub quoted_text : List ℕ → List ℕ
quoted_text scalars = flat_map quoted_scalar scalars

-- numbers with a comma between each two
abbrev pub separated : List ℕ → List ℕ
separated [] = []
separated (n ∷ rest) = decimal n ++ flat_map (λ m. 44 ∷ decimal m) rest

-- a path or position
abbrev pub printed_path : List ℕ → List ℕ
printed_path numbers = 91 ∷ separated numbers ++ 93 ∷ []
