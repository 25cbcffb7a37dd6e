use Rattle.std.proofs.Common.{Err}
use Rattle.model_tree.proofs.Moving.{no_place_is, same_move}
use Rattle.model_tree.proofs.tree.Tree.move_run.Goals as goal

pub returns-in-Err-clause-no_place : goal.returns-in-Err-clause-no_place
returns-in-Err-clause-no_place c =
    no_place_is _ c.in-Err.fault
    (same_move c.as_slice.result.now c.args.parent.now c.args.offset c.args.count c.as_slice-2.result.now c.args.to.now c.args.to_offset
    c.self.inside.root c.args.self.now (Err c.in-Err.fault)
    c.as_slice.ensures.numbers c.as_slice-2.ensures.numbers c.self.view_is c.in-Err.ensures)
