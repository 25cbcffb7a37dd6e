use Rattle.view_tree.proofs.Calls.{emptied_nowhere}
use Rattle.view_tree.proofs.view.View.take_children.Goals as goal

pub returns-in_default-clause-nodes : goal.returns-in_default-clause-nodes
returns-in_default-clause-nodes c =
    emptied_nowhere c.args.parent.now c.as_slice-path.result.now c.self.inside.nodes.nodes c.self.inside.drawn c.args.self.now c.as_slice-path.ensures
    c.self.view_is _ c.in_default.ensures.list c.in_default.ensures.left
