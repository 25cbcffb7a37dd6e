-- The scalar values of a text spell its bytes again.
use Rattle.std.proofs.Common.{◌≡◌, ℕ, List}
use Rattle.std.specs.Prelude.{encode_utf8_all}
use Rattle.std.specs.Str.{chars, IsUtf8}
use Rattle.std.proofs.lemmas.Str.{encodes-chars}

pub bytes_again : (text : List ℕ) → IsUtf8 text → encode_utf8_all (chars text) ≡ text
bytes_again text h = encodes-chars text h
