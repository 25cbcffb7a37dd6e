-- The digits of a number are one scalar value each.
use Rattle.std.proofs.Common.{◌≡◌, ℕ, ◌<◌, ◌^◌}
use Rattle.std.specs.Str.{chars}
use Rattle.std.specs.Fmt.{decimal}
use Rattle.std.proofs.lemmas.Fmt.{IsAscii-decimal}
use Rattle.std.proofs.lemmas.Str.{chars-IsAscii}

pub chars_decimal : (n : ℕ) → n < 2 ^ 64 → chars (decimal n) ≡ decimal n
chars_decimal n h = chars-IsAscii (decimal n) (IsAscii-decimal n h)
