-- What a name is. A name is seen as the list of its bytes, which are ASCII.
use Rattle.std.specs.Prelude.{ℕ, List, [], ◌∷◌, length, Bool, false, ◌&&◌, ◌||◌, ◌==◌, nat_le}
use Rattle.std.specs.List.{list_all}

-- from the first of the two codes to the second
abbrev pub is_between : ℕ → ℕ → ℕ → Bool
is_between first last byte = nat_le first byte && nat_le byte last

-- an ASCII letter, a digit, `_`, `-`, `$` or `:`
abbrev pub is_name_byte : ℕ → Bool
is_name_byte byte = is_between 97 122 byte || is_between 65 90 byte || is_between 48 57 byte || byte == 95 || byte == 45 || byte == 36 || byte == 58

-- 1 to 64 such bytes
unfoldable pub is_name : List ℕ → Bool
is_name text = nat_le 1 (length text) && nat_le (length text) 64 && list_all is_name_byte text

-- a name begins with `$`, as those of the generic items of CKEditor 5's schema do, which no element has
abbrev pub is_generic : List ℕ → Bool
is_generic [] = false
is_generic (first ∷ rest) = first == 36
