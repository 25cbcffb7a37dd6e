use Rattle.std.proofs.Common.{refl, ap, ◌∙◌}
use Rattle.model_doc.specs.Held.{Held}
use Rattle.conv_rules.specs.Listed.{conversion_of}
use Rattle.editor_core.specs.HandedIn.{meanings}
use Rattle.editor_core.specs.Held.{terms_of}
use Rattle.editor_core.proofs.Starts.{opens-made, opens-not, not-memory}
use Rattle.editor_core.proofs.editor.opened.Goals as goal

pub returns-in-Ok-changed-clause-opens : goal.returns-in-Ok-changed-clause-opens
returns-in-Ok-changed-clause-opens g c =
    opens-made (meanings (λ b. (goal.Converter-dyn g (b.vtable, b.value)).gives b.value) (λ b. (goal.Fixer-dyn g (b.vtable, b.value)).fixes b.value))
    c.args.edits.now c.in-Ok.document.state.document
    (record {
      list = c.args.list;
      terms = c.args.terms;
      document = c.changed.new.document;
      view = c.in-Ok-changed.view;
      mapper = c.in-Ok-changed.mapper;
      accepted = 0;
    })
    (ap (λ (held : Held). held.state.document) c.in-Ok.ensures) c.in-Ok-changed.ensures.moves
    (c.changed.ensures.kept ∙ ap (λ (held : Held). held.kept) c.in-Ok.ensures) refl c.in-Ok-changed.ensures.mapped c.in-Ok-changed.ensures.numbered

pub returns-in-Err-clause-opens : goal.returns-in-Err-clause-opens
returns-in-Err-clause-opens g c =
    opens-not (meanings (λ b. (goal.Converter-dyn g (b.vtable, b.value)).gives b.value) (λ b. (goal.Fixer-dyn g (b.vtable, b.value)).fixes b.value))
    (record {
      terms = terms_of (λ b. (goal.Fixer-dyn g (b.vtable, b.value)).fixes b.value) c.args.terms;
      conversion = conversion_of (λ b. (goal.Converter-dyn g (b.vtable, b.value)).gives b.value) c.args.list;
    })
    c.args.edits.now c.in-Ok.document.state.document c.in-Err.refusal c.open_fault.result
    (ap (λ (held : Held). held.state.document) c.in-Ok.ensures) c.in-Err.ensures.moves c.open_fault.ensures

pub returns-in-Err-clause-no_calls : goal.returns-in-Err-clause-no_calls
returns-in-Err-clause-no_calls g c other =
    c.in-Err.ensures.no_calls (not-memory c.in-Err.refusal c.open_fault.result c.open_fault.ensures other)
