use Rattle.std.proofs.Common.{◌≡◌, IfOk, None, string_bytes, subst}
use Rattle.print_definitions.specs.ViewText.{view_text}
use Rattle.downcast_definitions.specs.Rows.{downcast}
use Rattle.editor_core.specs.AsMachine.{conversion_in, document_in}
use Rattle.editor_run.proofs.Printed.{printed_content}
use Rattle.editor_run.proofs.printing.plain_view.Goals as goal

pub returns : goal.returns
returns g c =
    let conversion = conversion_in (λ b. (goal.Converter-dyn g (b.vtable, b.value)).gives b.value) c.args.editor.now in
    let shown = downcast conversion (document_in c.args.editor.now) in
    subst (λ printed. IfOk c.view_text.result (λ text. string_bytes text ≡ printed))
    (printed_content None c.view.result.now.nodes shown c.view.ensures.content) c.view_text.ensures
