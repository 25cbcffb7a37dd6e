use Rattle.std.proofs.Common.{Err, sym, ap, ◌∙◌}
use Rattle.schema_definitions.specs.Allowed.{is_registered}
use Rattle.editor_core.specs.Held.{fixings_in}
use Rattle.editor_core.proofs.Settled.{settles_to, told}
use Rattle.editor_core.proofs.changing.settle_all.Goals as goal

pub returns-in-Ok-clause-settles : goal.returns-in-Ok-clause-settles
returns-in-Ok-clause-settles g c =
    settles_to (is_registered c.args.terms.now.schema) (fixings_in (λ b. (goal.Fixer-dyn g (b.vtable, b.value)).fixes b.value) c.args.terms.now)
    c.args.terms.now.rounds c.args.document.now.state c.settle.new.document.state c.in-Ok.ensures.ok

pub returns-in-Err-clause-settles : goal.returns-in-Err-clause-settles
returns-in-Err-clause-settles g c other =
    let all = told (is_registered c.args.terms.now.schema) (fixings_in (λ b. (goal.Fixer-dyn g (b.vtable, b.value)).fixes b.value) c.args.terms.now)
    c.args.terms.now.rounds c.args.document.now.state c.in-Err.fault
    (λ others fixer e. c.settle.ensures.not_settled others fixer (c.in-Err.is ∙ ap Err e))
    (λ fixer inner e. c.settle.ensures.fixer_refused fixer inner (c.in-Err.is ∙ ap Err e))
    (λ e. other (c.settle_refusal.ensures ∙ e)) in
    (all.0, all.1, all.2 ∙ sym c.settle_refusal.ensures)
