use Rattle.std.proofs.Common.{[], ◌∷◌, ap, ◌∙◌}
use Rattle.schema_rules.specs.Chosen.{is_chosen}
use Rattle.schema_rules.proofs.chosen.Chosen.first.Goals as goal

pub returns-in-Listed-clause-before : goal.returns-in-Listed-clause-before
returns-in-Listed-clause-before c = λ index from less. ap (λ chosen. is_chosen chosen (index ∷ [])) c.in-Listed.is
    ∙ c.first_listed.ensures.before index from less
