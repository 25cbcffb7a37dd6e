-- The names of the ancestors on a walk.
use Rattle.std.proofs.Common.{◌≡◌, ◌-◌, List, [], ◌∷◌, ◌++◌, take, length, ap, ◌∙◌, arith}
use Rattle.std.proofs.lemmas.List.{length_push}
use Rattle.std.proofs.Math.Seq.{take-append_seam}

-- going back out of an element
pub left : {A : Type 0} (old new xs : List A) (x : A) → new ≡ take (length old - 1) old → old ≡ xs ++ x ∷ [] → new ≡ xs
left old new xs x e f =
    e ∙ ap (λ zs. take (length zs - 1) zs) f
    ∙ (let same : length (xs ++ x ∷ []) - 1 ≡ length xs = omega (arith, length_push xs x) in ap (λ n. take n (xs ++ x ∷ [])) same)
    ∙ take-append_seam xs (x ∷ [])
