-- What a text says: its Unicode scalar values, in order.
use Rattle.std.specs.Prelude.{ℕ, List, length, Bool, nat_le}

-- The UTF-8 bytes of an attribute's text are at most 4,096.
abbrev pub is_within_text_limit : List ℕ → Bool
is_within_text_limit bytes = nat_le (length bytes) 4096
