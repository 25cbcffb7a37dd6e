-- What edits make of a document, whatever cells stand beside it.
use Rattle.std.proofs.Common.{◌≡◌, ◌≢◌, ℕ, List, Bool, Result, Ok, Err, IfErr, OnOk}
use Rattle.ck_base.specs.declared.faults.EditFault.{EditFault}
use Rattle.ck_base.specs.declared.faults.EditFault.TheVariants.{NoMemory}
use Rattle.document_definitions.specs.Document.{State}
use Rattle.edit_definitions.specs.declared.edit.Edit.{Edit}
use Rattle.edit_definitions.specs.Performed.{all_performed}
use Rattle.edit_definitions.specs.Performed.{edits_made}
use Rattle.edit_definitions.proofs.Apart.{edits-ok, edits-err}

module _ {A : Type 0} (registered : List ℕ → Bool) (edits : List Edit) (state new : State) where
  pub made_ok : (result : Result A EditFault) → OnOk result (all_performed registered 1 edits state ≡ Ok new)
      → OnOk result (edits_made registered edits state.document ≡ Ok new.document)
  made_ok (Ok done) made = edits-ok registered edits state new made
  made_ok (Err fault) made = tt

  pub made_err : (result : Result A EditFault) → IfErr result (λ fault. fault ≢ NoMemory → all_performed registered 1 edits state ≡ Err fault)
      → IfErr result (λ fault. fault ≢ NoMemory → edits_made registered edits state.document ≡ Err fault)
  made_err (Ok done) refused = tt
  made_err (Err fault) refused = λ other. edits-err registered edits state fault (refused other)
