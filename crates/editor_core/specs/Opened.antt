-- What the opening of an editor answers.
use Rattle.std.specs.Prelude.{◌≡◌, ◌≢◌, Result, Ok, Err}
use Rattle.ck_base.specs.declared.faults.Refusal.{Refusal}
use Rattle.ck_base.specs.declared.faults.Refusal.TheVariants.{NoMemory as NoMemoryForChange}
use Rattle.document_definitions.specs.Document.{Document}
use Rattle.schema_definitions.specs.Allowed.{inline_objects}
use Rattle.step_definitions.specs.Step.{opened}
use Rattle.program_definitions.specs.Product.{Product}
use Rattle.program_definitions.specs.Converters.{conversion_by}
use Rattle.program_definitions.specs.Fixers.{terms_by}
use Rattle.program_definitions.specs.Machine.{Config, Machine, beginning}
use Rattle.editor_core.specs.declared.editor.Parts.{Parts}
use Rattle.editor_core.specs.declared.editor.Editor.{Editor}
use Rattle.editor_core.specs.declared.editor.OpenFault.{OpenFault}
use Rattle.editor_core.specs.declared.editor.OpenFault.TheVariants.{BadStart, NoMemory}
use Rattle.editor_core.specs.HandedIn.{Meanings}
use Rattle.editor_core.specs.AsMachine.{machine_of, IsCurrent}

-- the machine on the document that is opened, or why it can't be
abbrev pub begun : Config → Result Document Refusal → Result Machine Refusal
begun config (Ok document) = Ok (beginning config document)
begun config (Err refusal) = Err refusal

-- what an editor's parts say of its document's editing and showing, where a product adds this
abbrev pub config_of : Product → Parts → Config
config_of product parts = record {
  terms = terms_by product.fixers parts.schema parts.fixers.items parts.rounds;
  conversion = conversion_by product.converters parts.version parts.converters.items (inline_objects parts.schema) parts.indexed.items;
}

-- the machine of an editor of these parts that is opened, or why its start is refused
abbrev pub started : Product → Parts → Result Machine Refusal
started product parts = begun (config_of product parts) (opened (config_of product parts).terms parts.start)

-- the fault of an opening that is refused so
abbrev pub Faults : Refusal → OpenFault → Type 0
Faults refusal (BadStart told) = (told ≡ refusal) × (refusal ≢ NoMemoryForChange)
Faults refusal NoMemory = refusal ≡ NoMemoryForChange

-- an editor is answered exactly where a machine is wanted, and is that; else its refusal, which isn't want of memory; unless memory ran out
abbrev pub Opens : {X Z : Type 0} {Y : X → Type 0} {W : Z → Type 0} → Meanings X Z Y W → Result Machine Refusal → Result (Editor X Z Y W) OpenFault → Type 0
Opens meanings wanted (Ok editor) = (wanted ≡ Ok (machine_of meanings editor)) × IsCurrent meanings editor
Opens meanings wanted (Err (BadStart refusal)) = (wanted ≡ Err refusal) × (refusal ≢ NoMemoryForChange)
Opens meanings wanted (Err NoMemory) = Unit {0}
