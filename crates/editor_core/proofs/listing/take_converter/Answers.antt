use Rattle.std.proofs.Common.{ap, ◌∙◌}
use Rattle.program_definitions.specs.Product.{first_named}
use Rattle.editor_core.specs.HandedIn.{named_by, first_of}
use Rattle.editor_core.proofs.Taken.{means-first, others-stay, mapped}
use Rattle.editor_core.proofs.listing.take_converter.Goals as goal

pub returns-clause-object : goal.returns-clause-object
returns-clause-object g c =
    mapped (λ b. (goal.Converter-dyn g (b.vtable, b.value)).gives b.value) c.take_named.result (first_of c.args.name.now c.args.converters.now.items)
    c.take_named.ensures.object
    ∙ means-first (λ b. (goal.Converter-dyn g (b.vtable, b.value)).gives b.value) c.args.name.now c.args.converters.now.items

pub returns-clause-others : goal.returns-clause-others
returns-clause-others g c other differs =
    ap (λ objects. first_named (named_by (λ b. (goal.Converter-dyn g (b.vtable, b.value)).gives b.value) objects) other) c.take_named.ensures.rest
    ∙ others-stay (λ b. (goal.Converter-dyn g (b.vtable, b.value)).gives b.value) c.args.name.now c.args.converters.now.items other differs
