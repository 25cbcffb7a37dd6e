use Rattle.std.proofs.Common.{Err, refl, ap, ◌∙◌}
use Rattle.editor_core.specs.AsMachine.{machine_of}
use Rattle.editor_run.proofs.Ending.{all_held, any_held, ends_out_of_memory, ends_too_large, ends_unfetched, is_told}
use Rattle.editor_run.proofs.Scripts.{script_large, script_missing}
use Rattle.editor_core.specs.HandedIn.{meanings}
use Rattle.editor_run.proofs.run.answer_script.Goals as goal

pub returns-in-Err-NoMemory-clause-ends : goal.returns-in-Err-NoMemory-clause-ends
returns-in-Err-NoMemory-clause-ends g c = ends_out_of_memory _ _ refl

pub returns-in-Err-TooLarge-clause-ends : goal.returns-in-Err-TooLarge-clause-ends
returns-in-Err-TooLarge-clause-ends g c =
    ends_too_large _ _ refl (script_large (machine_of
    (meanings (λ b. (goal.Converter-dyn g (b.vtable, b.value)).gives b.value) (λ b. (goal.Fixer-dyn g (b.vtable, b.value)).fixes b.value))
    c.args.editor.now)
    c.args.script.now (g.F.Files.holds c.args.files.now)
    (all_held (g.F.Files.holds c.args.files.now) _ _ c.fetch.ensures.too_large (λ held so. so (c.in-Err-TooLarge.is ∙ ap Err c.in-Err-TooLarge.field-0-is))))

pub returns-in-Err-Missing-clause-ends : goal.returns-in-Err-Missing-clause-ends
returns-in-Err-Missing-clause-ends g c =
    ends_unfetched _ _ refl (script_missing (machine_of
    (meanings (λ b. (goal.Converter-dyn g (b.vtable, b.value)).gives b.value) (λ b. (goal.Fixer-dyn g (b.vtable, b.value)).fixes b.value))
    c.args.editor.now)
    c.args.script.now (g.F.Files.holds c.args.files.now) _
    (all_held (g.F.Files.holds c.args.files.now) _ _ c.fetch.ensures.missing (λ held so calm. so (c.in-Err-Missing.is ∙ ap Err c.in-Err-Missing.field-0-is))))
    (λ calm. is_told (g.F.Files.holds c.args.files.now) _ c.fetch.ensures.untold (c.in-Err-Missing.is ∙ ap Err c.in-Err-Missing.field-0-is))

pub returns-in-Err-Failed-clause-ends : goal.returns-in-Err-Failed-clause-ends
returns-in-Err-Failed-clause-ends g c =
    let failed = c.fetch.ensures.failed (c.in-Err-Failed.is ∙ ap Err c.in-Err-Failed.field-0-is) in
    ends_unfetched _ _ refl (any_held (g.F.Files.holds c.args.files.now) _ (λ held calm. absurd (calm failed))) (λ calm. absurd (calm failed))
