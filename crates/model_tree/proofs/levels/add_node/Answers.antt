use Rattle.model_tree.proofs.Normal.{normal_joined}
use Rattle.model_tree.proofs.levels.add_node.Goals as goal

pub returns-in_ok-push-2-clause-normal : goal.returns-in_ok-push-2-clause-normal
returns-in_ok-push-2-clause-normal c =
    normal_joined c.pop.new.self.items c.args.made.now.items c.push-then-joins.new.self.items c.in-Some.last c.in_ok-one.one c.args.node
    c.in-Some.ensures.items c.in_ok-push-2.ensures.items c.in_ok-one.ensures.items c.in_ok-one.ensures.like c.requires
