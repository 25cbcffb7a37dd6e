-- The lines of a script.
use Rattle.std.specs.Prelude.{ℕ, List, [], ◌∷◌, Bool, ◌||◌, ◌==◌, if◌then◌else◌}
use Rattle.std.specs.List.{list_all}

-- the lines of a text that goes on with this byte, which is no line feed
abbrev pub in_first_line : ℕ → List (List ℕ) → List (List ℕ)
in_first_line byte [] = (byte ∷ []) ∷ []
in_first_line byte (line ∷ lines) = (byte ∷ line) ∷ lines

-- Lines are separated by line feeds. What follows the last line feed is a line if it isn't empty.
abbrev pub lines_of : List ℕ → List (List ℕ)
lines_of [] = []
lines_of (byte ∷ bytes) = if byte == 10 then [] ∷ lines_of bytes else in_first_line byte (lines_of bytes)

-- a blank, a tab or a carriage return
abbrev pub is_blank_byte : ℕ → Bool
is_blank_byte byte = byte == 32 || byte == 9 || byte == 13

-- a line that is passed over without an answer
abbrev pub is_blank : List ℕ → Bool
is_blank line = list_all is_blank_byte line
