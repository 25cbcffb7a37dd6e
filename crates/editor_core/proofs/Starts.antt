-- An editor that is opened by terms, edits and a conversion.
use Rattle.std.proofs.Common.{◌≡◌, ◌≢◌, ℕ, List, [], ◌∷◌, map, None, Result, Ok, Err, refl, sym, ap, ◌∙◌, subst}
use Rattle.std.specs.Global.{Global}
use Rattle.std.specs.declared.dyn_box.DynBox.{DynBox}
use Rattle.converter_definitions.specs.Gives.{Conversion}
use Rattle.edit_definitions.specs.declared.edit.Edit.{Edit}
use Rattle.schema_definitions.specs.Allowed.{Rules}
use Rattle.fix_definitions.specs.Fixes.{Fixing, fixing_of}
use Rattle.fix_definitions.specs.declared.plan.FixerPlan.{FixerPlan}
use Rattle.post_fix.specs.declared.list.FixerList.{FixerList}
use Rattle.post_fix.specs.Listed.{fixer_of, fixers_of, fixings_of}
use Rattle.step_definitions.specs.Step as step
use Rattle.step_definitions.proofs.Accepted.{step_accepted}
use Rattle.downcast_definitions.specs.Numbered.{AreNumbered}
use Rattle.document_definitions.specs.Document.{Document, ids_of}
use Rattle.ck_base.specs.declared.faults.Refusal.{Refusal}
use Rattle.ck_base.specs.declared.faults.Refusal.TheVariants.{NoMemory}
use Rattle.pos_mapper.specs.Mapped.{IsMapped}
use Rattle.program_definitions.specs.Machine.{Config, beginning}
use Rattle.step_definitions.specs.Step.{step, empty_document}
use Rattle.program_definitions.specs.Fixers.{fixer_by, terms_by}
use Rattle.editor_core.specs.declared.editor.Editor.{Editor}
use Rattle.editor_core.specs.declared.editor.OpenFault.{OpenFault}
use Rattle.editor_core.specs.declared.editor.OpenFault.TheVariants.{BadStart, NoMemory as OpenNoMemory}
use Rattle.editor_core.specs.HandedIn.{Meanings}
use Rattle.editor_core.specs.AsMachine.{document_in, numbers_in, conversion_in, terms_in, config_in}
use Rattle.editor_core.specs.Opened.{Opens, Faults, begun}

-- by those that are wanted
pub opens-so : {X Z : Type 0} {Y : X → Type 0} {W : Z → Type 0} (meanings : Meanings X Z Y W) (terms those : step.Terms) (conversion wanted : Conversion)
    (edits starting : List Edit) (result : Result (Editor X Z Y W) OpenFault) → terms ≡ those → conversion ≡ wanted → edits ≡ starting
    → Opens meanings (begun (record { terms = terms; conversion = conversion }) (step terms edits empty_document)) result
    → Opens meanings (begun (record { terms = those; conversion = wanted }) (step those starting empty_document)) result
opens-so meanings terms those conversion wanted edits starting result t c e opens =
    subst (λ terms. Opens meanings (begun (record { terms = terms; conversion = wanted }) (step terms starting empty_document)) result) t
    (subst (λ conversion. Opens meanings (begun (record { terms = terms; conversion = conversion }) (step terms starting empty_document)) result) c
    (subst (λ edits. Opens meanings (begun (record { terms = terms; conversion = conversion }) (step terms edits empty_document)) result) e opens))

twice : {A B C : Type 0} (f : A → B) (g : B → C) (list : List A) → map (λ a. g (f a)) list ≡ map g (map f list)
twice f g [] = refl
twice f g (first ∷ list) = ap (λ rest. g (f first) ∷ rest) (twice f g list)

-- the terms of a list of fixers that was made of plans
pub terms-are : {Z : Type 0} {W : Z → Type 0} (fixes : DynBox Z Global W → Fixing) (list : FixerList Z W) (handed_in : List (List ℕ × Fixing))
    (rules : Rules) (plans : List FixerPlan) (rounds : ℕ) → fixers_of fixes list ≡ map (fixer_by handed_in) plans
    → record { rules = rules; fixings = fixings_of rules fixes list; rounds = rounds } ≡ terms_by handed_in rules plans rounds
terms-are {Z} {W} fixes list handed_in rules plans rounds e =
    let all =
    twice (fixer_of fixes) (fixing_of rules) list.entries.items
    ∙ ap (map (fixing_of rules)) e
    ∙ sym (twice (fixer_by handed_in) (fixing_of rules) plans) in
    λ i. record { rules = rules; fixings = all i; rounds = rounds }

-- an editor of the document that a change of an empty one has made
pub opens-made : {X Z : Type 0} {Y : X → Type 0} {W : Z → Type 0} (meanings : Meanings X Z Y W) (edits : List Edit) (document : Document)
    (editor : Editor X Z Y W)
    → document ≡ empty_document → step (terms_in meanings editor) edits document ≡ Ok (document_in editor) → editor.document.kept ≡ None → editor.accepted ≡ 0
    → IsMapped (conversion_in meanings.gives editor) (document_in editor) editor.mapper editor.view.nodes
    → AreNumbered (numbers_in editor) (ids_of (document_in editor).items)
    → Opens meanings (begun (config_in meanings editor) (step (terms_in meanings editor) edits empty_document)) (Ok editor)
opens-made meanings edits document editor e made kept none mapped numbered =
    let starts = ap (step (terms_in meanings editor) edits) (sym e) ∙ made in (
      ap (begun (config_in meanings editor)) starts
          ∙ (λ i. Ok (record (beginning (config_in meanings editor) (document_in editor)) { accepted = sym none i })),
      record {
        kept = kept;
        accepted = step_accepted (terms_in meanings editor) edits empty_document (document_in editor) starts;
        mapped = mapped;
        numbered = numbered;
      },
    )

-- no editor, where that change is refused
pub opens-not : {X Z : Type 0} {Y : X → Type 0} {W : Z → Type 0} (meanings : Meanings X Z Y W) (config : Config) (edits : List Edit) (document : Document)
    (refusal : Refusal) (fault : OpenFault) → document ≡ empty_document → (refusal ≢ NoMemory → step config.terms edits document ≡ Err refusal)
    → Faults refusal fault → Opens {X = X} {Z = Z} {Y = Y} {W = W} meanings (begun config (step config.terms edits empty_document)) (Err fault)
opens-not meanings config edits document refusal (BadStart told) e refused faults = (
  ap (begun config) (ap (step config.terms edits) (sym e) ∙ refused (λ m. faults.1 m)) ∙ ap (λ (refusal : Refusal). Err refusal) (sym faults.0),
  λ m. faults.1 (sym faults.0 ∙ m),
)
opens-not meanings config edits document refusal OpenNoMemory e refused faults = tt

-- a fault that isn't want of memory comes of no want of memory
pub not-memory : (refusal : Refusal) (fault : OpenFault) → Faults refusal fault → fault ≢ OpenNoMemory → refusal ≢ NoMemory
not-memory refusal (BadStart told) faults other = faults.1
not-memory refusal OpenNoMemory faults other = absurd (other refl)
