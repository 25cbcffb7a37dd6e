use Rattle.std.proofs.Common.{sym, ◌∙◌}
use Rattle.view_wrap.proofs.Meeting.{both_told}
use Rattle.view_wrap.proofs.joins.are_one.Goals as goal

pub returns : goal.returns
returns c = both_told _ _ _ _ _ c.same.ensures (sym c.in-Some.is ∙ c.in_ok-layer.ensures) (sym c.in-Some-2.is ∙ c.in_ok-other.ensures)
