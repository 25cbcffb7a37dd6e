-- What a test of the schema answers, and what fixers that come to rest leave.
use Rattle.std.specs.Prelude.{◌≡◌, ◌≢◌, ℕ, List, Option, Some, None, Result, Ok, Err}
use Rattle.ck_base.specs.declared.faults.Refusal.{Refusal}
use Rattle.ck_base.specs.declared.faults.Refusal.TheVariants.{Schema, NoMemory}
use Rattle.ck_base.specs.declared.faults.Rule.{Rule}
use Rattle.document_definitions.specs.Document.{Document}
use Rattle.fix_definitions.specs.declared.fault.SettleFault.{SettleFault}
use Rattle.step_definitions.specs.Step.{settle_refusal}

-- the refusal of a breach
abbrev pub refused_by : Option (Rule × List ℕ) → Option Refusal
refused_by None = None
refused_by (Some found) = Some (Schema found.0 found.1)

-- nothing is answered exactly where there is no breach, and else its refusal, unless memory ran out
abbrev pub Tests : {A : Type 0} → Option (Rule × List ℕ) → Result A Refusal → Type 0
Tests found (Ok done) = found ≡ None
Tests found (Err refusal) = refusal ≢ NoMemory → refused_by found ≡ Some refusal

-- the document that is wanted is left; or the fault of settling is told as a refusal, but for want of memory
abbrev pub Settles : {A : Type 0} → Result Document SettleFault → Document → Result A Refusal → Type 0
Settles wanted now (Ok done) = wanted ≡ Ok now
Settles wanted now (Err refusal) = refusal ≢ NoMemory → (fault : SettleFault) × (wanted ≡ Err fault) × (settle_refusal fault ≡ refusal)
