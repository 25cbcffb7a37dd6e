use Rattle.std.proofs.Common.{subst, ap, sym, ◌∙◌, option_map}
use Rattle.editor_core.specs.HandedIn.{meanings, product_of}
use Rattle.program_definitions.specs.Output.{outcome_of}
use Rattle.editor_run.specs.Asked.{task_view}
use Rattle.editor_run.specs.Ends.{calls, Ends}
use Rattle.editor_run.proofs.run.run_words.Goals as goal

pub returns-in-Some-clause-ends : goal.returns-in-Some-clause-ends
returns-in-Some-clause-ends g c =
    let product = product_of (meanings (λ b. (goal.Converter-dyn g (b.vtable, b.value)).gives b.value)
    (λ b. (goal.Fixer-dyn g (b.vtable, b.value)).fixes b.value)) c.args.extensions in
    subst (λ asked. Ends (calls (g.F.Files.holds c.args.files.now) (g.F.Files.faults c.args.files.now) (g.F.Files.faults c.run_task.new.files)
    (g.S.Sink.written c.args.out.now) (g.S.Sink.written c.run_task.new.out) (g.S.Sink.faults c.args.out.now) (g.S.Sink.faults c.run_task.new.out))
    (λ held. outcome_of product held asked) c.run_task.result)
    (ap (option_map task_view) (sym c.in-Some.is) ∙ c.task_of.ensures) c.run_task.ensures.ends
