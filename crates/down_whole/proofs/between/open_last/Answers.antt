use Rattle.std.proofs.Common.{sym, ◌∙◌}
use Rattle.down_whole.proofs.Seams.{last_inner}
use Rattle.down_whole.proofs.between.open_last.Goals as goal

pub returns-then-branch-clause-inner : goal.returns-then-branch-clause-inner
returns-then-branch-clause-inner c =
    last_inner c.args.layer.now c.args.nodes.now.nodes c.pop.new.self.nodes c.into_children.result.nodes c.in-Some.node c.in-Some.ensures.nodes
    (sym c.in_ok-is_in.ensures ∙ c.if-branch.true) c.into_children.ensures
