-- Known bytes that grow piece by piece.
use Rattle.std.proofs.Common.{◌≡◌, ℕ, ◌+◌, ◌-◌, List, [], ◌++◌, Option, None, Some, length, take, drop, refl, ap, ◌∙◌, sym, append_assoc, append-nil}
use Rattle.std.proofs.Math.Seq.{take-add}
use Rattle.std.proofs.lemmas.List.{take_rest}
use Rattle.std.specs.Io.KnownBytes.{append_known}

-- nothing more
pub append_known-nil : (known : Option (List ℕ)) → append_known known [] ≡ known
append_known-nil None = refl
append_known-nil (Some xs) = ap (λ l. Some l) (append-nil xs)

-- one piece after another is one piece
pub append_known-append : (known : Option (List ℕ)) (xs ys : List ℕ) → append_known (append_known known xs) ys ≡ append_known known (xs ++ ys)
append_known-append None xs ys = refl
append_known-append (Some ws) xs ys = ap (λ l. Some l) (append_assoc ws xs ys)

-- the first `sent` bytes, and then the first `taken` of the rest
pub append_known_taken : (before middle after : Option (List ℕ)) (bytes : List ℕ) (sent taken : ℕ)
    → middle ≡ append_known before (take sent bytes) → after ≡ append_known middle (take taken (take (length bytes - sent) (drop sent bytes)))
    → after ≡ append_known before (take (sent + taken) bytes)
append_known_taken before middle after bytes sent taken first then =
    then
    ∙ ap (λ known. append_known known (take taken (take (length bytes - sent) (drop sent bytes)))) first
    ∙ append_known-append before _ _
    ∙ ap (λ l. append_known before (take sent bytes ++ take taken l)) (take_rest bytes sent)
    ∙ ap (append_known before) (sym (take-add sent taken bytes))
