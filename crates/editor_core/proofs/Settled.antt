-- What fixers leave of a document, whatever cells stand beside it.
use Rattle.std.proofs.Common.{◌≡◌, ◌≢◌, ℕ, List, Bool, Ok, Err, refl, sym, ap, ◌∙◌}
use Rattle.ck_base.specs.declared.faults.EditFault.{EditFault}
use Rattle.ck_base.specs.declared.faults.Refusal.TheVariants.{NoMemory as OutOfMemory}
use Rattle.document_definitions.specs.Document.{State}
use Rattle.fix_definitions.specs.declared.fault.SettleFault.{SettleFault}
use Rattle.fix_definitions.specs.declared.fault.SettleFault.TheVariants.{NotSettled, FixerRefused, NoMemory}
use Rattle.fix_definitions.specs.Fixes.{Fixing}
use Rattle.fix_definitions.specs.Settling.{settle, settled, document_settled}
use Rattle.fix_definitions.proofs.Rounds.{reads_no_cells}
use Rattle.step_definitions.specs.Step.{settle_refusal}

module _ (registered : List ℕ → Bool) (fixings : List Fixing) (rounds : ℕ) (state : State) where
  pub settles_to : (new : State) → settle registered fixings rounds state ≡ Ok new → settled registered fixings rounds state.document ≡ Ok new.document
  settles_to new e = sym (reads_no_cells registered fixings rounds state) ∙ ap document_settled e

  pub settles_not : (fault : SettleFault) → settle registered fixings rounds state ≡ Err fault → settled registered fixings rounds state.document ≡ Err fault
  settles_not fault e = sym (reads_no_cells registered fixings rounds state) ∙ ap document_settled e

  -- the fault of settling, as it is told
  pub told : (fault : SettleFault)
      → ((others fixer : ℕ) → fault ≡ NotSettled others fixer → settle registered fixings rounds state ≡ Err (NotSettled others fixer))
      → ((fixer : ℕ) (inner : EditFault) → fault ≡ FixerRefused fixer inner → settle registered fixings rounds state ≡ Err (FixerRefused fixer inner))
      → settle_refusal fault ≢ OutOfMemory
      → (other : SettleFault) × (settled registered fixings rounds state.document ≡ Err other) × (settle_refusal other ≡ settle_refusal fault)
  told (NotSettled others fixer) restless refused other =
      (NotSettled others fixer, settles_not (NotSettled others fixer) (restless others fixer refl), refl)
  told (FixerRefused fixer inner) restless refused other =
      (FixerRefused fixer inner, settles_not (FixerRefused fixer inner) (refused fixer inner refl), refl)
  told NoMemory restless refused other = absurd (other refl)
