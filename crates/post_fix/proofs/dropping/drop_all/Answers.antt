use Rattle.post_fix.proofs.Denied.{all_dropped}
use Rattle.post_fix.proofs.dropping.drop_all.Goals as goal

pub returns : goal.returns
returns c =
    all_dropped c.in_ok-walk.walk.schema.now c.args.schema.now c.items.result.now c.args.tree.now c.args.out.now.items c.drop_items.new.out.items
    c.in_ok-walk.ensures c.items.ensures.items c.in_ok-drop_items.ensures
