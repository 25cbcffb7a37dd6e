-- What a line makes of a machine.
use Rattle.std.proofs.Common.{◌≡◌, ℕ, ◌+◌, ◌⊎◌, inl, inr, List, [], Bool, true, false, if◌then◌else◌, ◌==◌, Result, Ok, Err, refl}
use Rattle.ck_base.specs.declared.faults.Refusal.{Refusal}
use Rattle.ck_base.specs.declared.faults.Refusal.TheVariants.{ChangesSpent}
use Rattle.json_forms.specs.declared.fault.FormFault.{FormFault}
use Rattle.machine_definitions.specs.Lines.{is_blank}
use Rattle.document_definitions.specs.Document.{Document}
use Rattle.edit_definitions.specs.declared.edit.Edit.{Edit}
use Rattle.script_definitions.specs.declared.request.Request.{Request}
use Rattle.script_definitions.specs.declared.request.Request.TheVariants.{Change, SelectView, Show}
use Rattle.script_definitions.specs.Request.{request_of}
use Rattle.step_definitions.specs.Step.{IsAccepted, step}
use Rattle.step_definitions.proofs.Accepted.{step_accepted}
use Rattle.program_definitions.specs.Machine.{Machine, most_changes, moved, edited, told, answer_to, answer}
use Rattle.program_definitions.specs.Selecting.{selecting}

-- That a machine is another one, or one accepted change behind it, whose document obeys the schema and is settled; what documents are edited under is the same
pub record Follows (machine new : Machine) : Type 0 where
  pub changes : (new ≡ machine) ⊎ ((new.accepted ≡ machine.accepted + 1) × IsAccepted machine.config.terms new.document)
  pub config : new.config ≡ machine.config

stays : (machine : Machine) → Follows machine machine
stays machine = record { changes = inl refl; config = refl }

module _ (machine : Machine) (number : ℕ) where
  moves : (made : Result Document Refusal) → ((document : Document) → made ≡ Ok document → IsAccepted machine.config.terms document)
      → Follows machine (told machine number (moved machine made)).machine
  moves (Ok document) accepts = record { changes = inr (refl, accepts document refl); config = refl }
  moves (Err refusal) accepts = stays machine

  edits : (chosen : Result (List Edit) Refusal) → Follows machine (told machine number (edited machine chosen)).machine
  edits (Ok chosen) = moves (step machine.config.terms chosen machine.document)
      (λ document e. step_accepted machine.config.terms chosen machine.document document e)
  edits (Err refusal) = stays machine

  counts : (spent : Bool) (chosen : Result (List Edit) Refusal)
      → Follows machine (told machine number (if spent then Err ChangesSpent else edited machine chosen)).machine
  counts true chosen = stays machine
  counts false chosen = edits chosen

  requests : (request : Result Request FormFault) → Follows machine (answer_to machine number request).machine
  requests (Ok (Change chosen)) = counts (machine.accepted == most_changes) (Ok chosen)
  requests (Ok (SelectView anchor focus)) = counts (machine.accepted == most_changes) (selecting machine.config.conversion machine.document _ _)
  requests (Ok (Show selection)) = stays machine
  requests (Err fault) = stays machine

  pub follows : (line : List ℕ) → Follows machine (answer machine number line).machine
  unfolding answer
  follows line = go (is_blank line)
    where
      go : (blank : Bool) → Follows machine (if blank then record { machine = machine; text = [] } else answer_to machine number (request_of line)).machine
      go true = stays machine
      go false = requests (request_of line)
