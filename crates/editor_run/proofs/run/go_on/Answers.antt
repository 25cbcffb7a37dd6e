use Rattle.std.proofs.Common.{subst, sym, ap}
use Rattle.editor_core.specs.AsMachine.{machine_of}
use Rattle.program_definitions.specs.Output.{accepted_settings, done}
use Rattle.editor_run.specs.declared.run.Status.TheVariants.{Finished, NotFetched, NotWritten, TooLarge}
use Rattle.editor_run.specs.Asked.{task_view}
use Rattle.editor_run.specs.Ends.{calls, Ends}
use Rattle.editor_run.proofs.Ending.{any_held, either_other, ends_told}
use Rattle.editor_core.specs.HandedIn.{meanings}
use Rattle.editor_run.proofs.run.go_on.Goals as goal

pub returns-in-Run-clause-ends : goal.returns-in-Run-clause-ends
returns-in-Run-clause-ends g c =
    subst (λ task. Ends (calls (g.F.Files.holds c.args.files.now) (g.F.Files.faults c.args.files.now) (g.F.Files.faults c.answer_script.new.files)
    (g.S.Sink.written c.args.out.now) (g.S.Sink.written c.answer_script.new.out) (g.S.Sink.faults c.args.out.now) (g.S.Sink.faults c.answer_script.new.out))
    (λ held. done held (task_view task) (machine_of
    (meanings (λ b. (goal.Converter-dyn g (b.vtable, b.value)).gives b.value) (λ b. (goal.Fixer-dyn g (b.vtable, b.value)).fixes b.value))
    c.args.editor.now)) c.answer_script.result)
    (sym c.in-Run.is) c.answer_script.ensures.ends

pub returns-in-Check-clause-ends : goal.returns-in-Check-clause-ends
returns-in-Check-clause-ends g c =
    let machine = machine_of (meanings (λ b. (goal.Converter-dyn g (b.vtable, b.value)).gives b.value)
    (λ b. (goal.Fixer-dyn g (b.vtable, b.value)).fixes b.value)) c.args.editor.now in
    let status = c.accept_settings.result in
    ends_told _ _ accepted_settings Finished status
    (any_held (g.F.Files.holds c.args.files.now) _ (λ held. ap (λ task. done held (task_view task) machine) c.in-Check.is))
    (either_other Finished NotWritten NotFetched status (λ a. absurd cc) (λ a. absurd cc) c.accept_settings.ensures.statuses)
    (either_other Finished NotWritten TooLarge status (λ a. absurd cc) (λ a. absurd cc) c.accept_settings.ensures.statuses)
    c.accept_settings.ensures.tells
