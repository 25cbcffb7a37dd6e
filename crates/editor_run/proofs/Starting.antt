-- What the answer of an opening says of the machine of its settings.
use Rattle.std.proofs.Common.{◌≡◌, Result, Ok, Err, ap}
use Rattle.ck_base.specs.declared.faults.Refusal.{Refusal}
use Rattle.document_definitions.specs.Document.{Document}
use Rattle.program_definitions.specs.Machine.{Config, Machine}
use Rattle.program_definitions.specs.Output.{refused, refused_start, begun}
use Rattle.editor_core.specs.Opened as openings

abbrev refusal_in : Refusal → Result Machine Refusal → Refusal
refusal_in other (Ok machine) = other
refusal_in other (Err refusal) = refusal

-- a start that is refused ends the run,
pub refused_document : (config : Config) (made : Result Document Refusal) (refusal : Refusal) → openings.begun config made ≡ Err refusal
    → begun config made ≡ Err (refused (refused_start refusal))
refused_document config (Ok document) refusal e = absurd cc
refused_document config (Err other) refusal e = ap (λ r. Err (refused (refused_start r))) (ap (refusal_in refusal) e)

abbrev machine_in : Machine → Result Machine Refusal → Machine
machine_in other (Ok machine) = machine
machine_in other (Err refusal) = other

-- and one that is not begins it
pub opened_document : (config : Config) (made : Result Document Refusal) (machine : Machine) → openings.begun config made ≡ Ok machine
    → begun config made ≡ Ok machine
opened_document config (Ok document) machine e = ap Ok (ap (machine_in machine) e)
opened_document config (Err refusal) machine e = absurd cc
