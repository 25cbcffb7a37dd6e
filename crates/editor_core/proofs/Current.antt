-- Editors whose view is that of their document: what they show, and how a change leaves them.
use Rattle.std.proofs.Common.{◌≡◌, List, Some, sym, ap, ◌∙◌, subst}
use Rattle.document_definitions.specs.Document.{Document, ids_of}
use Rattle.view_definitions.specs.Node.{ViewNode, content}
use Rattle.converter_definitions.specs.Gives.{Conversion}
use Rattle.downcast_definitions.specs.Rows.{downcast, numbered_downcast}
use Rattle.downcast_definitions.proofs.Numbering.{numbers-dropped}
use Rattle.model_doc.specs.Held.{Moment, Held, present, letting_go, returned}
use Rattle.pos_mapper.specs.Bindings.{Mapper, numbers_of}
use Rattle.pos_mapper.specs.Mapped.{IsMapped}
use Rattle.pos_mapper.proofs.PlainNodes.{same-content}
use Rattle.downcast_definitions.specs.Numbered.{AreNumbered}
use Rattle.editor_core.specs.declared.editor.Editor.{Editor}
use Rattle.step_definitions.specs.Step.{IsAccepted}
use Rattle.editor_core.specs.HandedIn.{Meanings}
use Rattle.editor_core.specs.AsMachine.{conversion_in, terms_in, IsCurrent}

-- the nodes that a mapper is of are the document's view, whatever their numbers and counts of changes
pub shows_document : (conversion : Conversion) (document : Document) (mapper : Mapper) (nodes : List ViewNode) → IsMapped conversion document mapper nodes
    → content nodes ≡ downcast conversion document
shows_document conversion document mapper nodes mapped =
    sym (same-content nodes)
    ∙ ap content mapped.view
    ∙ same-content (numbered_downcast (numbers_of mapper) conversion document)
    ∙ numbers-dropped (numbers_of mapper) conversion document

module _ {X Z : Type 0} {Y : X → Type 0} {W : Z → Type 0} (meanings : Meanings X Z Y W) (editor : Editor X Z Y W) where
  -- a document that returned to what it kept is the one from before
  pub same_again : (kept changed document : Held) → IsCurrent meanings editor → kept ≡ record editor.document { kept = Some (present editor.document) }
      → changed.kept ≡ kept.kept
      → ((moment : Moment) → changed.kept ≡ Some moment → document ≡ returned moment) → document ≡ editor.document
  same_again kept changed document current k c r =
      r (present editor.document) (c ∙ ap (λ (held : Held). held.kept) k)
      ∙ (λ i. record { state = editor.document.state; mark = editor.document.mark; kept = sym current.kept i })

  -- and so the editor is the one from before
  pub as_it_was : (document : Held) → document ≡ editor.document → record editor { document = document } ≡ editor
  as_it_was document e = λ i. record editor { document = e i }

  -- with a new document, which is shown, and let go of what it kept
  pub shown_anew : (changed document : Held) → document ≡ letting_go changed → (new : Editor X Z Y W) → new.document ≡ document
      → IsAccepted (terms_in meanings new) changed.state.document
      → IsMapped (conversion_in meanings.gives new) changed.state.document new.mapper new.view.nodes
      → AreNumbered (numbers_of new.mapper) (ids_of changed.state.document.items)
      → IsCurrent meanings new
  shown_anew changed document e new d accepted mapped numbered =
      let all : letting_go changed ≡ new.document = sym (d ∙ e) in
      record {
        kept = sym (ap (λ (held : Held). held.kept) all);
        accepted = subst (λ (held : Held). IsAccepted (terms_in meanings new) held.state.document) all accepted;
        mapped = subst (λ (held : Held). IsMapped (conversion_in meanings.gives new) held.state.document new.mapper new.view.nodes) all mapped;
        numbered = subst (λ (held : Held). AreNumbered (numbers_of new.mapper) (ids_of held.state.document.items)) all numbered;
      }
