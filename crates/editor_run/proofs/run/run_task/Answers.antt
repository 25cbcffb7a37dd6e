use Rattle.std.proofs.Common.{◌≡◌, Ok, IfSome, subst, sym, ap, ◌∙◌}
use Rattle.editor_core.specs.AsMachine.{machine_of}
use Rattle.editor_core.specs.HandedIn.{meanings, product_of}
use Rattle.program_definitions.specs.Output.{done, finished, machine_from, task_outcome}
use Rattle.program_definitions.specs.Task.{settings_name}
use Rattle.editor_run.specs.Asked.{task_view}
use Rattle.editor_run.specs.Ends.{calls, IsFetched}
use Rattle.editor_run.specs.Unopened.{IsEnd}
use Rattle.editor_run.specs.declared.opening.Unopened.TheVariants as ends
use Rattle.editor_run.proofs.Ending.{all_held, ends_as, ends_unopened, not_held_told}
use Rattle.editor_run.proofs.run.run_task.Goals as goal

pub returns-in-Ok-clause-ends : goal.returns-in-Ok-clause-ends
returns-in-Ok-clause-ends g c =
    let task = task_view c.args.task in
    let product = product_of (meanings (λ b. (goal.Converter-dyn g (b.vtable, b.value)).gives b.value)
    (λ b. (goal.Fixer-dyn g (b.vtable, b.value)).fixes b.value)) c.args.extensions in
    let machine = machine_of (meanings (λ b. (goal.Converter-dyn g (b.vtable, b.value)).gives b.value)
    (λ b. (goal.Fixer-dyn g (b.vtable, b.value)).fixes b.value)) c.in-Ok.editor in
    let holds = g.F.Files.holds in
    let faults = g.F.Files.faults in
    let after = faults c.go_on-status.new.files in
    let old = g.S.Sink.written c.args.out.now in
    let new = g.S.Sink.written c.go_on-status.new.out in
    let writes = g.S.Sink.faults c.args.out.now in
    let writes_then = g.S.Sink.faults c.go_on-status.new.out in
    ends_as (calls (holds c.open_settings.new.files) (faults c.open_settings.new.files) after old new writes writes_then)
    (calls (holds c.args.files.now) (faults c.args.files.now) after old new writes writes_then)
    (λ held. done held task machine) (λ held. task_outcome product held task) c.go_on-status.result c.close.result
    (λ i. calls (c.open_settings.ensures.holds i) (c.in-Ok.ensures.calm i) after old new writes writes_then)
    (sym c.close.ensures)
    (subst (λ told. IfSome told (λ held. done held task machine ≡ task_outcome product held task)) (sym c.open_settings.ensures.holds)
    (all_held (holds c.args.files.now) (λ held. machine_from product (held c.settings.result.now) ≡ Ok machine) (λ held. done held task machine
    ≡ task_outcome product held task)
    c.in-Ok.ensures.ok
    (λ held opens. sym (ap (λ name. finished held task (machine_from product (held name))) (sym c.settings.ensures) ∙ ap (finished held task) opens))))
    c.go_on-status.ensures.ends

pub returns-in-Err-clause-ends : goal.returns-in-Err-clause-ends
returns-in-Err-clause-ends g c =
    let task = task_view c.args.task in
    let product = product_of (meanings (λ b. (goal.Converter-dyn g (b.vtable, b.value)).gives b.value)
    (λ b. (goal.Fixer-dyn g (b.vtable, b.value)).fixes b.value)) c.args.extensions in
    let holds = g.F.Files.holds c.args.files.now in
    let all = calls holds (g.F.Files.faults c.args.files.now) (g.F.Files.faults c.open_settings.new.files)
    (g.S.Sink.written c.args.out.now) (g.S.Sink.written c.end.new.out) (g.S.Sink.faults c.args.out.now) (g.S.Sink.faults c.end.new.out) in
    ends_unopened all (λ held. machine_from product (held (settings_name task))) task c.in-Err.fault c.end.result
    (all_held holds _ (λ held. (c.in-Err.fault ≡ ends.NotFetched → IsFetched all)
    → IsEnd c.in-Err.fault (machine_from product (held (settings_name task)))) c.in-Err.ensures.err
    (λ held so calm. subst (λ name. IsEnd c.in-Err.fault (machine_from product (held name))) c.settings.ensures (so calm)))
    (λ e calm. not_held_told holds c.settings.result.now (c.in-Err.ensures.missing e calm))
    c.end.ensures
