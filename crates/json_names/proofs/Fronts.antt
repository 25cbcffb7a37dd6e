-- What is read one by one from a list.
use Rattle.std.proofs.Common.{◌≡◌, List, [], ◌∷◌, ◌++◌, Result, Ok, Err, refl, ap, append_assoc}
use Rattle.json_forms.specs.declared.fault.FormFault.{FormFault}
use Rattle.json_forms.specs.Form.{◌>>=◌}

module _ {A : Type 0} where
  -- what was read, behind what came before
  abbrev pub with_front : List A → Result (List A) FormFault → Result (List A) FormFault
  with_front front reading = reading >>= λ rest. Ok (front ++ rest)

  -- one more is in front
  pub with_front_more : (front : List A) (x : A) (reading : Result (List A) FormFault) → with_front (front ++ x ∷ []) reading
      ≡ with_front front (reading >>= λ rest. Ok (x ∷ rest))
  with_front_more front x (Ok rest) = let read : List A → Result (List A) FormFault = λ xs. Ok xs in ap read (append_assoc front (x ∷ []) rest)
  with_front_more front x (Err refusal) = refl
