use Rattle.down_whole.proofs.Seams.{told}
use Rattle.down_whole.proofs.caret.is_same.Goals as goal

pub returns : goal.returns
returns c = told c.same.result c.args.layer.now c.args.other.now c.same.ensures
