-- An editor as the machine of the definitions, and what holds of it between its calls.
use Rattle.std.specs.Prelude.{◌≡◌, ℕ, ◌*◌, [], length, None, Result}
use Rattle.std.specs.Global.{Global}
use Rattle.std.specs.declared.dyn_box.DynBox.{DynBox}
use Rattle.ck_base.specs.declared.faults.Refusal.{Refusal}
use Rattle.document_definitions.specs.Document.{Document, ids_of}
use Rattle.converter_definitions.specs.Gives.{Giving, Conversion}
use Rattle.downcast_definitions.specs.Scene.{Numbers}
use Rattle.downcast_definitions.specs.Numbered.{AreNumbered}
use Rattle.conv_rules.specs.Listed.{boxed_count, conversion_of}
use Rattle.pos_mapper.specs.Bindings.{numbers_of}
use Rattle.pos_mapper.specs.Mapped.{IsMapped}
use Rattle.step_definitions.specs.Step.{Terms, IsAccepted}
use Rattle.program_definitions.specs.Machine.{Config, Machine}
use Rattle.editor_core.specs.declared.editor.Editor.{Editor}
use Rattle.editor_core.specs.HandedIn.{Meanings}
use Rattle.editor_core.specs.Held.{terms_of, Moves}

-- its document
abbrev pub document_in : {X Z : Type 0} {Y : X → Type 0} {W : Z → Type 0} → Editor X Z Y W → Document
document_in editor = editor.document.state.document

-- the numbers of the view elements of its document's elements
abbrev pub numbers_in : {X Z : Type 0} {Y : X → Type 0} {W : Z → Type 0} → Editor X Z Y W → Numbers
numbers_in editor = numbers_of editor.mapper

-- what its converters make of elements, by what boxed ones give
abbrev pub conversion_in : {X Z : Type 0} {Y : X → Type 0} {W : Z → Type 0} → (DynBox X Global Y → Giving) → Editor X Z Y W → Conversion
conversion_in gives editor = conversion_of gives editor.list

-- the most calls of a product's converters for one view of its document: each converter once for each element
abbrev pub calls_for_view : {X Z : Type 0} {Y : X → Type 0} {W : Z → Type 0} → (DynBox X Global Y → Giving) → Editor X Z Y W → ℕ
calls_for_view gives editor = boxed_count (conversion_in gives editor).converters * length (ids_of (document_in editor).items)

-- what its changes are held to
abbrev pub terms_in : {X Z : Type 0} {Y : X → Type 0} {W : Z → Type 0} → Meanings X Z Y W → Editor X Z Y W → Terms
terms_in meanings editor = terms_of meanings.fixes editor.terms

-- what its document is edited under and shown by
abbrev pub config_in : {X Z : Type 0} {Y : X → Type 0} {W : Z → Type 0} → Meanings X Z Y W → Editor X Z Y W → Config
config_in meanings editor = record { terms = terms_in meanings editor; conversion = conversion_in meanings.gives editor }

-- the machine that it is; nothing of what was done is kept today
abbrev pub machine_of : {X Z : Type 0} {Y : X → Type 0} {W : Z → Type 0} → Meanings X Z Y W → Editor X Z Y W → Machine
machine_of meanings editor = record {
  config = config_in meanings editor;
  document = document_in editor;
  earlier = [];
  undone = [];
  accepted = editor.accepted;
}

-- That its view is that of its document, with the mapper, that its document obeys the schema and is settled, and that this keeps no moment to
-- return to: so it is opened, and so each call leaves it
pub record IsCurrent {X Z : Type 0} {Y : X → Type 0} {W : Z → Type 0} (meanings : Meanings X Z Y W) (editor : Editor X Z Y W) : Type 0 where
  pub kept : editor.document.kept ≡ None
  pub accepted : IsAccepted (terms_in meanings editor) (document_in editor)
  pub mapped : IsMapped (conversion_in meanings.gives editor) (document_in editor) editor.mapper editor.view.nodes
  pub numbered : AreNumbered (numbers_in editor) (ids_of (document_in editor).items)

-- an accepted call makes of the machine that an editor is what is wanted; a refusal is the one that is wanted, but for want of memory
abbrev pub Changes : {X Z : Type 0} {Y : X → Type 0} {W : Z → Type 0} {A : Type 0} → Meanings X Z Y W → (Machine → Result Machine Refusal)
    → Editor X Z Y W → Editor X Z Y W → Result A Refusal → Type 0
Changes meanings change old new result = Moves (change (machine_of meanings old)) (machine_of meanings new) result
