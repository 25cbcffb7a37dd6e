-- One change of a document: its edits in order, then the fixers until none wants anything, and then the test of the schema. What is refused
-- changes nothing. (After `Model.change()` of CKEditor 5, whose post-fixers run at its end; that the schema is tested then, and that a refused
-- change leaves nothing behind, is this engine's own rule.)
use Rattle.std.specs.Prelude.{◌≡◌, ℕ, List, [], ◌∷◌, false, Option, Some, None, Result, Ok, Err}
use Rattle.ck_base.specs.declared.faults.EditFault.{EditFault}
use Rattle.ck_base.specs.declared.faults.Refusal.{Refusal}
use Rattle.ck_base.specs.declared.faults.Refusal.TheVariants.{
  Edit as EditRefused,
  FixerRefused as OfFixer,
  NotSettled as Restless,
  Schema,
  NoMemory as
      OutOfMemory,
}
use Rattle.ck_base.specs.declared.faults.Rule.{Rule}
use Rattle.schema_definitions.specs.Allowed.{Rules, is_registered}
use Rattle.breach_definitions.specs.Breach.{breach}
use Rattle.document_definitions.specs.Document.{Document, empty_state}
use Rattle.edit_definitions.specs.declared.edit.Edit.{Edit}
use Rattle.edit_definitions.specs.declared.edit.Edit.TheVariants.{InsertElement, Select}
use Rattle.edit_definitions.specs.Performed.{edits_made}
use Rattle.fix_definitions.specs.declared.fault.SettleFault.{SettleFault}
use Rattle.fix_definitions.specs.declared.fault.SettleFault.TheVariants.{NotSettled, FixerRefused, NoMemory}
use Rattle.fix_definitions.specs.Fixes.{Fixing}
use Rattle.fix_definitions.specs.Settling.{settled, IsSettled}

-- what each change of a document is held to: the rules of its schema, what its fixers plan, and in how many rounds they have to come to rest
pub record Terms : Type 0 where
  pub rules : Rules
  pub fixings : List Fixing
  pub rounds : ℕ

-- That a document is one that a change may leave: it obeys the schema, and no fixer wants anything of it
pub record IsAccepted (terms : Terms) (document : Document) : Type 0 where
  pub obeys : breach terms.rules document.items ≡ None
  pub settled : IsSettled terms.fixings document

-- a document that obeys the schema, or its first breach as a refusal
abbrev pub accepted : Document → Option (Rule × List ℕ) → Result Document Refusal
accepted document None = Ok document
accepted document (Some found) = Err (Schema found.0 found.1)

-- the refusal of a change whose document doesn't settle; none settles by want of memory
abbrev pub settle_refusal : SettleFault → Refusal
settle_refusal (NotSettled rounds fixer) = Restless rounds fixer
settle_refusal (FixerRefused fixer inner) = OfFixer fixer inner
settle_refusal NoMemory = OutOfMemory

-- a document that has settled, tested against the schema; or why it doesn't settle
abbrev pub tested : Terms → Result Document SettleFault → Result Document Refusal
tested terms (Ok document) = accepted document (breach terms.rules document.items)
tested terms (Err fault) = Err (settle_refusal fault)

-- what edits have made, brought to rest and tested; or why one can't be made
abbrev pub finished : Terms → Result Document EditFault → Result Document Refusal
finished terms (Ok document) = tested terms (settled (is_registered terms.rules) terms.fixings terms.rounds document)
finished terms (Err fault) = Err (EditRefused fault)

-- the document after a change, or the change's refusal
abbrev pub step : Terms → List Edit → Document → Result Document Refusal
step terms edits document = finished terms (edits_made (is_registered terms.rules) edits document)

-- the edits that open a document: one empty element of the start's name, with the selection in it, or none
abbrev pub opening : Option (List ℕ) → List Edit
opening None = []
opening (Some name) = InsertElement (0 ∷ []) name [] ∷ Select (0 ∷ 0 ∷ []) (0 ∷ 0 ∷ []) false ∷ []

-- a document without items, whose first new element gets the id 1
abbrev pub empty_document : Document
empty_document = (empty_state 1).document

-- the document that is opened, or why it can't be
abbrev pub opened : Terms → Option (List ℕ) → Result Document Refusal
opened terms start = step terms (opening start) empty_document
