use Rattle.std.proofs.Common.{◌∙◌}
use Rattle.step_definitions.specs.Step.{opening}
use Rattle.conv_rules.specs.Listed.{conversion_of}
use Rattle.editor_core.specs.HandedIn.{named_by, meanings}
use Rattle.editor_core.proofs.Starts.{opens-so, terms-are}
use Rattle.editor_core.proofs.editor.Editor.open.Goals as goal

pub returns-clause-opens : goal.returns-clause-opens
returns-clause-opens g c =
    opens-so (meanings (λ b. (goal.Converter-dyn g (b.vtable, b.value)).gives b.value) (λ b. (goal.Fixer-dyn g (b.vtable, b.value)).fixes b.value))
    _ _ (conversion_of (λ b. (goal.Converter-dyn g (b.vtable, b.value)).gives b.value) c.in-Ok-list_of.list) _
    c.as_slice.result.now (opening c.args.parts.start) c.opened.result
    (terms-are (λ b. (goal.Fixer-dyn g (b.vtable, b.value)).fixes b.value) c.in-Ok-fixers_of_plans.fixers
    (named_by (λ b. (goal.Fixer-dyn g (b.vtable, b.value)).fixes b.value) c.args.extensions.fixers.items)
    c.args.parts.schema c.args.parts.fixers.items c.args.parts.rounds c.in-Ok-fixers_of_plans.ensures)
    c.in-Ok-list_of.ensures (c.as_slice.ensures.value ∙ c.in-Ok.ensures) c.opened.ensures.opens
