use Rattle.post_fix.proofs.Same.{same_is}
use Rattle.post_fix.proofs.asking.same.Goals as goal

pub returns : goal.returns
returns c = same_is c.args.attributes.now c.args.others.now c.same.result c.same.ensures
