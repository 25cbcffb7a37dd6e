use Rattle.std.proofs.Common.{◌∙◌}
use Rattle.item_definitions.specs.Position.{not_after}
use Rattle.model_pos.proofs.Pushed.{run-ordered}
use Rattle.model_pos.proofs.parts.push_run.Goals as goal

pub new-requires : goal.new-requires
new-requires c =
    (λ t. not_after (c.place.ensures t) (c.place-then-from-to.ensures t)) ∙ run-ordered c.args.above.now c.args.from c.args.to c.if-from-to.true
