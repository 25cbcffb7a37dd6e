-- The range of converter priorities, and the words for five of them.
use Rattle.std.specs.Prelude.{ℕ, ℤ, pos, negsuc, List, Bool, ◌&&◌, int_le, codes, Option, Some, None, if◌then◌else◌}
use Rattle.std.specs.Str.{bytes_eq}

-- from -100000 to 100000
abbrev pub is_priority : ℤ → Bool
is_priority level = int_le (negsuc 99999) level && int_le level (pos 100000)

-- the number that a word means
abbrev pub priority_word : List ℕ → Option ℤ
priority_word word = if bytes_eq word (codes "highest") then Some (pos 100000)
    else (if bytes_eq word (codes "high") then Some (pos 1000)
    else (if bytes_eq word (codes "normal") then Some (pos 0)
    else (if bytes_eq word (codes "low") then Some (negsuc 999)
    else (if bytes_eq word (codes "lowest") then Some (negsuc 99999) else None))))
