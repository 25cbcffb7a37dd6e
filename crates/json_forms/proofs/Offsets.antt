-- Numbers that are read one by one from a list.
use Rattle.std.proofs.Common.{◌≡◌, ℕ, List, [], ◌∷◌, ◌++◌, Result, Ok, Err, refl, ap, append_assoc}
use Rattle.json_forms.specs.declared.fault.FormFault.{FormFault}
use Rattle.json_forms.specs.Form.{◌>>=◌}

-- what was read, behind the numbers so far
abbrev pub with_front : List ℕ → Result (List ℕ) FormFault → Result (List ℕ) FormFault
with_front front reading = reading >>= λ rest. Ok (front ++ rest)

-- one more number is in front
pub with_front_more : (front : List ℕ) (n : ℕ) (reading : Result (List ℕ) FormFault) → with_front (front ++ n ∷ []) reading
    ≡ with_front front (reading >>= λ rest. Ok (n ∷ rest))
with_front_more front n (Ok rest) = let read : List ℕ → Result (List ℕ) FormFault = λ xs. Ok xs in ap read (append_assoc front (n ∷ []) rest)
with_front_more front n (Err refusal) = refl
