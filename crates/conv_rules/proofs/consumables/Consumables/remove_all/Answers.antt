use Rattle.std.proofs.Common.{rules, not, ap, ◌∙◌}
use Rattle.std.proofs.lemmas.Fn.{filter_same}
use Rattle.converter_definitions.specs.Facts.{is_left, left_without_all}
use Rattle.conv_rules.proofs.consumables.Consumables.remove_all.Goals as goal

pub returns : goal.returns
returns c = filter_same _ (λ other. not (is_left c.args.keys.now other)) _ (λ x b f k. search rules) _ _ c.retain.ensures.filtered
    ∙ ap (left_without_all c.args.keys.now) c.self.view_is
