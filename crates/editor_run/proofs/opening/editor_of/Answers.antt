use Rattle.step_definitions.specs.Step.{opened}
use Rattle.config_read.specs.Refused.{settings_view}
use Rattle.editor_core.specs.HandedIn.{meanings, product_of}
use Rattle.program_definitions.specs.Output.{config_of, begun}
use Rattle.editor_run.proofs.Starting.{refused_document}
use Rattle.editor_run.proofs.opening.editor_of.Goals as goal

pub returns-in-Err-BadStart-clause-opens : goal.returns-in-Err-BadStart-clause-opens
returns-in-Err-BadStart-clause-opens g c =
    let product =
    product_of (meanings (λ b. (goal.Converter-dyn g (b.vtable, b.value)).gives b.value) (λ b. (goal.Fixer-dyn g (b.vtable, b.value)).fixes b.value))
    c.args.extensions in
    let config = config_of product (settings_view c.args.settings) in
    let made = opened config.terms c.args.settings.start in
    c.start_end.ensures.ends (begun config made) (refused_document config made _ (rw c.in-Err-BadStart.field-0-is at c.in-Err-BadStart.ensures.opens).0)
