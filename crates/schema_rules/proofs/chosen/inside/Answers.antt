use Rattle.std.proofs.Common.{◌∷◌, ap, ◌∙◌, arith}
use Rattle.std.specs.List.{list_any}
use Rattle.std.proofs.lemmas.List.{take_all}
use Rattle.schema_rules.specs.Chosen.{lists_near}
use Rattle.schema_rules.proofs.chosen.inside.Goals as goal

pub returns : goal.returns
returns c =
    λ next rest. c.loop-near.invariant next rest
    ∙ ap (list_any (λ near. lists_near near (c.args.index ∷ next ∷ rest)))
    (take_all c.loop-near.near-index c.args.nears.now.items (omega (arith, c.deref-near-items.ensures.len)))
