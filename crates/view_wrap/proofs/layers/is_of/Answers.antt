use Rattle.std.proofs.Common.{refl, sym, ◌∙◌}
use Rattle.view_wrap.proofs.Meeting.{both_told}
use Rattle.view_wrap.proofs.layers.is_of.Goals as goal

pub returns-in-Some : goal.returns-in-Some
returns-in-Some c = both_told _ _ _ _ _ c.same.ensures refl (sym c.in-Some.is ∙ c.in_ok-own.ensures)
