use Rattle.std.proofs.Common.{ap}
use Rattle.program_definitions.specs.Machine.{change}
use Rattle.editor_core.specs.AsMachine.{machine_of}
use Rattle.editor_run.proofs.Told.{accepted, refused}
use Rattle.editor_core.specs.HandedIn.{meanings}
use Rattle.editor_run.proofs.answering.answer_change.Goals as goal

pub returns-in-Ok-clause-answered : goal.returns-in-Ok-clause-answered
returns-in-Ok-clause-answered g c =
    let meant =
    meanings (λ b. (goal.Converter-dyn g (b.vtable, b.value)).gives b.value) (λ b. (goal.Fixer-dyn g (b.vtable, b.value)).fixes b.value) in
    let old = machine_of meant c.args.editor.now in
    accepted old (machine_of meant c.change.new.self) c.args.number (change c.args.edits.now old)
    c.accepted_line.result c.in-Ok.ensures.changes c.accepted_line.ensures

pub returns-in-Err-clause-answered : goal.returns-in-Err-clause-answered
returns-in-Err-clause-answered g c =
    let meant =
    meanings (λ b. (goal.Converter-dyn g (b.vtable, b.value)).gives b.value) (λ b. (goal.Fixer-dyn g (b.vtable, b.value)).fixes b.value) in
    let old = machine_of meant c.args.editor.now in
    refused old (machine_of meant c.change.new.self) c.args.number (change c.args.edits.now old)
    c.refused_line.result c.in-Err.refusal c.in-Err.ensures.changes
    (ap (machine_of meant) c.in-Err.ensures.stays)
    c.refused_line.ensures.text c.refused_line.ensures.printed
