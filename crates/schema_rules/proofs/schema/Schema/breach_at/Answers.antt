use Rattle.std.proofs.Common.{◌≡◌, subst}
use Rattle.std.specs.Prelude.{IfOk}
use Rattle.schema_rules.proofs.Placing.{listed_is}
use Rattle.schema_rules.proofs.schema.Schema.breach_at.Goals as goal

pub returns : goal.returns
returns c = subst (λ wanted. IfOk c.first_chosen.result (λ found. found ≡ wanted))
    (listed_is c.args.self.now c.in_ok-chosen.chosen c.args.spots.now c.args.tree.now c.in_ok-chosen.ensures) c.first_chosen.ensures
