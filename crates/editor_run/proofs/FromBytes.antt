-- The machine of a settings file's bytes that are held, and the editor that is opened.
use Rattle.std.proofs.Common.{◌≡◌, ℕ, ◌≤◌, List, length, false, if◌then◌else◌, Option, Some, None, Result, Ok, Err, IfOk, IfErr, IfSome, nat_lt, sym}
use Rattle.std.proofs.Common.{ap, subst, ◌∙◌, arith}
use Rattle.std.proofs.lemmas.Bool.Decides.{nat_tests}
use Rattle.program_definitions.specs.Product.{Product}
use Rattle.program_definitions.specs.Output.{silent, most_settings_bytes, settings_in, machine_of, machine_from}
use Rattle.editor_core.specs.declared.editor.Editor.{Editor}
use Rattle.editor_core.specs.HandedIn.{Meanings}
use Rattle.editor_core.specs.AsMachine as editors
use Rattle.editor_run.specs.Unopened.{IsEnd, Opens}
use Rattle.editor_run.specs.declared.opening.Unopened.{Unopened}

module _ {X Z : Type 0} {Y : X → Type 0} {W : Z → Type 0} (meanings : Meanings X Z Y W) (product : Product) (bytes : List ℕ)
    (fits : length bytes ≤ most_settings_bytes) where
  small : nat_lt most_settings_bytes (length bytes) ≡ false
  small = grind (arith, nat_tests)

  -- bytes within the limit are read
  machine_is : machine_from product (Some bytes) ≡ machine_of product (settings_in product bytes)
  machine_is = ap (λ large. if large then Err (silent 6) else machine_of product (settings_in product bytes)) small

  module _ (holds : Option (List ℕ → Option (List ℕ))) (name : List ℕ) (found : IfSome holds (λ held. held name ≡ Some bytes)) where
    pub opened_ok : (result : Result (Editor X Z Y W) Unopened) → Opens meanings (machine_of product (settings_in product bytes)) result
        → IfOk result (λ editor. IfSome holds (λ held. machine_from product (held name) ≡ Ok (editors.machine_of meanings editor)))
    opened_ok (Ok editor) opens = go holds found
      where
        go : (told : Option (List ℕ → Option (List ℕ))) → IfSome told (λ held. held name ≡ Some bytes)
            → IfSome told (λ held. machine_from product (held name) ≡ Ok (editors.machine_of meanings editor))
        go None e = tt
        go (Some held) e = ap (machine_from product) e ∙ machine_is ∙ opens.0
    opened_ok (Err fault) opens = tt

    pub opened_err : (Calm : Unopened → Type 0) (result : Result (Editor X Z Y W) Unopened)
        → Opens meanings (machine_of product (settings_in product bytes)) result
        → IfErr result (λ fault. IfSome holds (λ held. Calm fault → IsEnd fault (machine_from product (held name))))
    opened_err Calm (Ok editor) opens = tt
    opened_err Calm (Err fault) opens = go holds found
      where
        go : (told : Option (List ℕ → Option (List ℕ))) → IfSome told (λ held. held name ≡ Some bytes)
            → IfSome told (λ held. Calm fault → IsEnd fault (machine_from product (held name)))
        go None e = tt
        go (Some held) e = λ calm. subst (IsEnd fault) (sym (ap (machine_from product) e ∙ machine_is)) opens
