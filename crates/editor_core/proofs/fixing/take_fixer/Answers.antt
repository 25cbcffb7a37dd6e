use Rattle.std.proofs.Common.{ap, ◌∙◌}
use Rattle.program_definitions.specs.Product.{first_named}
use Rattle.editor_core.specs.HandedIn.{named_by, first_of}
use Rattle.editor_core.proofs.Taken.{means-first, others-stay, mapped}
use Rattle.editor_core.proofs.fixing.take_fixer.Goals as goal

pub returns-clause-object : goal.returns-clause-object
returns-clause-object g c =
    mapped (λ b. (goal.Fixer-dyn g (b.vtable, b.value)).fixes b.value) c.take_named.result (first_of c.args.name.now c.args.handed_in.now.items)
    c.take_named.ensures.object
    ∙ means-first (λ b. (goal.Fixer-dyn g (b.vtable, b.value)).fixes b.value) c.args.name.now c.args.handed_in.now.items

pub returns-clause-others : goal.returns-clause-others
returns-clause-others g c other differs =
    ap (λ objects. first_named (named_by (λ b. (goal.Fixer-dyn g (b.vtable, b.value)).fixes b.value) objects) other) c.take_named.ensures.rest
    ∙ others-stay (λ b. (goal.Fixer-dyn g (b.vtable, b.value)).fixes b.value) c.args.name.now c.args.handed_in.now.items other differs
