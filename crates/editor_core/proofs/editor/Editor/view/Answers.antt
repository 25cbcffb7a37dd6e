use Rattle.editor_core.specs.AsMachine.{conversion_in, document_in}
use Rattle.editor_core.proofs.Current.{shows_document}
use Rattle.editor_core.proofs.editor.Editor.view.Goals as goal

pub returns-clause-content : goal.returns-clause-content
returns-clause-content g c =
    shows_document (conversion_in (λ b. (goal.Converter-dyn g (b.vtable, b.value)).gives b.value) c.args.self.now) (document_in c.args.self.now)
    c.args.self.now.mapper c.args.self.now.view.nodes c.requires.mapped
