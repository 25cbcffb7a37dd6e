use Rattle.std.proofs.Common.{◌≡◌, ◌++◌, ◌∷◌, [], IfOk, string_bytes, subst}
use Rattle.downcast_definitions.specs.Rows.{downcast}
use Rattle.downcast_definitions.specs.Seen.{seen}
use Rattle.editor_core.specs.AsMachine.{conversion_in, document_in}
use Rattle.editor_run.proofs.Printed.{printed_between}
use Rattle.editor_run.proofs.printing.selected_view.Goals as goal

pub returns : goal.returns
returns g c =
    let conversion = conversion_in (λ b. (goal.Converter-dyn g (b.vtable, b.value)).gives b.value) c.args.editor.now in
    let document = document_in c.args.editor.now in
    let places = c.in_ok-places.places in
    subst (λ printed. IfOk c.view_text.result (λ text. string_bytes text ≡ printed))
    (printed_between (places.0.path ++ places.0.offset ∷ []) (places.1.path ++ places.1.offset ∷ [])
    (seen conversion document document.selection.range.start) (seen conversion document document.selection.range.end)
    c.view.result.now.nodes (downcast conversion document) c.in_ok-places.ensures.start c.in_ok-places.ensures.end c.view.ensures.content)
    c.view_text.ensures
