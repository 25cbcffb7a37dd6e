-- The digits of a signed number, and the words of truth values, are one scalar value each.
use Rattle.std.proofs.Common.{◌≡◌, ℤ, ◌<◌, ◌^◌, refl}
use Rattle.std.specs.Prelude.{codes}
use Rattle.std.specs.Str.{chars}
use Rattle.std.specs.Fmt.{signed_decimal}
use Rattle.std.specs.Int.Signed.{mag}
use Rattle.std.proofs.lemmas.Fmt.{IsAscii-signed}
use Rattle.std.proofs.lemmas.Str.{chars-IsAscii}

pub chars_signed : (z : ℤ) → mag z < 2 ^ 63 → chars (signed_decimal z) ≡ signed_decimal z
chars_signed z h = chars-IsAscii (signed_decimal z) (IsAscii-signed z h)

pub chars_true : chars (codes "true") ≡ codes "true"
unfolding chars
chars_true = refl

pub chars_false : chars (codes "false") ≡ codes "false"
unfolding chars
chars_false = refl
