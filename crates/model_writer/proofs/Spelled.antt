-- A text that is spelled from scalar values is read as these again.
use Rattle.std.proofs.Common.{◌≡◌, ℕ, ◌+◌, ◌<◌, Bool, true, false, ◌&&◌, List, [], ◌∷◌, ◌++◌, length, take, get_or, sym, ap, ◌∙◌, append_assoc, append-nil}
use Rattle.std.specs.Prelude.{encode_utf8, encode_utf8_all}
use lib.Utf8.{scalar}
use Rattle.std.specs.Str.{chars, all_scalars}
use Rattle.std.proofs.lemmas.List.{take_more}
use Rattle.std.proofs.lemmas.Str.{chars-encodes}

encodes-push : (xs : List ℕ) (c : ℕ) → encode_utf8_all (xs ++ c ∷ []) ≡ encode_utf8_all xs ++ encode_utf8 c
encodes-push [] c = append-nil (encode_utf8 c)
encodes-push (x ∷ xs) c = ap (λ ys. encode_utf8 x ++ ys) (encodes-push xs c) ∙ sym (append_assoc (encode_utf8 x) (encode_utf8_all xs) (encode_utf8 c))

scalars-push : (xs : List ℕ) (c : ℕ) → all_scalars (c ∷ []) ≡ true → all_scalars xs ≡ true → all_scalars (xs ++ c ∷ []) ≡ true
scalars-push [] c h all = h
scalars-push (x ∷ xs) c h all = both (scalar x) (all_scalars xs) all (scalars-push xs c h)
  where
    both : (a b : Bool) → (a && b) ≡ true → (b ≡ true → all_scalars (xs ++ c ∷ []) ≡ true) → (a && all_scalars (xs ++ c ∷ [])) ≡ true
    both true b e rest = rest e
    both false b e rest = absurd cc

pub next_bytes : (all : List ℕ) (index scalar : ℕ) (old new : List ℕ) → index < length all → scalar ≡ get_or all index scalar
    → old ≡ encode_utf8_all (take index all) → new ≡ old ++ encode_utf8 scalar
    → new ≡ encode_utf8_all (take (index + 1) all)
next_bytes all index scalar old new less here before after =
    after ∙ ap (λ ys. ys ++ encode_utf8 scalar) before ∙ sym (encodes-push (take index all) scalar)
    ∙ ap encode_utf8_all (ap (λ c. take index all ++ c ∷ []) here ∙ sym (take_more all index scalar less))

pub next_scalar : (all : List ℕ) (index c : ℕ) → index < length all → c ≡ get_or all index c → all_scalars (c ∷ []) ≡ true
    → all_scalars (take index all) ≡ true → all_scalars (take (index + 1) all) ≡ true
next_scalar all index c less here one before =
    ap all_scalars (take_more all index c less ∙ ap (λ d. take index all ++ d ∷ []) (sym here)) ∙ scalars-push (take index all) c one before

pub read_again : (bytes all scalars : List ℕ) → bytes ≡ encode_utf8_all all → all_scalars all ≡ true → all ≡ scalars → chars bytes ≡ scalars
read_again bytes all scalars spelled fit same = ap chars spelled ∙ chars-encodes all fit ∙ same
