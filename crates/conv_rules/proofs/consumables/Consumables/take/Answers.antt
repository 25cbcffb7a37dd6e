use Rattle.std.proofs.Common.{rules, not, ap, ◌∙◌}
use Rattle.std.proofs.lemmas.Fn.{filter_same}
use Rattle.converter_definitions.specs.Facts.{same_key, left_without}
use Rattle.conv_rules.proofs.consumables.Consumables.take.Goals as goal

pub returns-clause-left : goal.returns-clause-left
returns-clause-left c = filter_same _ (λ other. not (same_key c.args.key.now other)) _ (λ x b f k. search rules) _ _ c.retain.ensures.filtered
    ∙ ap (left_without c.args.key.now) c.self.view_is
