-- The answer to a change, by what the editor says of it.
use Rattle.std.proofs.Common.{◌≡◌, ◌≢◌, ℕ, Result, Ok, Err, IfOk, OnOk, String, string_bytes, Global, refl, sym, ap, ◌∙◌}
use Rattle.ck_base.specs.declared.faults.Refusal.{Refusal}
use Rattle.ck_base.specs.declared.faults.Refusal.TheVariants.{NoMemory}
use Rattle.program_definitions.specs.Machine.{Machine, accepted_line, refused_line, told}
use Rattle.editor_run.specs.Answered.{IsAnswered}

module _ {E : Type 0} (machine new : Machine) (number : ℕ) (wanted : Result Machine Refusal) where
  -- one that is accepted
  pub accepted : (result : Result (String Global) E) → wanted ≡ Ok new → IfOk result (λ text. string_bytes text ≡ accepted_line number)
      → IsAnswered (told machine number wanted) new result
  accepted (Ok text) e line = (line ∙ sym (ap (λ w. (told machine number w).text) e), sym (ap (λ w. (told machine number w).machine) e))
  accepted (Err fault) e line = tt

  -- and one that is refused
  pub refused : (result : Result (String Global) E) (refusal : Refusal) → (refusal ≢ NoMemory → wanted ≡ Err refusal) → new ≡ machine
      → IfOk result (λ text. string_bytes text ≡ refused_line number refusal) → OnOk result (refusal ≢ NoMemory)
      → IsAnswered (told machine number wanted) new result
  refused (Ok text) refusal e same line other =
      (line ∙ sym (ap (λ w. (told machine number w).text) (e other)), same ∙ sym (ap (λ w. (told machine number w).machine) (e other)))
  refused (Err fault) refusal e same line other = tt
