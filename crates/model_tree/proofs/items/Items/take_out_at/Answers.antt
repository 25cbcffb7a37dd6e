use Rattle.std.proofs.Common.{sym}
use Rattle.model_tree.proofs.Puts.{out_made}
use Rattle.model_tree.proofs.items.Items.take_out_at.Goals as goal

pub returns-in-Ok-replaced_at : goal.returns-in-Ok-replaced_at
returns-in-Ok-replaced_at c =
    out_made c.args.path.now c.args.offset c.args.count c.args.self.now c.in-Some.level.now c.in-Ok-replaced_at.rest c.in-Ok.run' c.in-Ok-new.none
    (sym c.in-Some.ensures) c.in-Ok.ensures c.in-Ok-new.ensures c.in-Ok-replaced_at.ensures
