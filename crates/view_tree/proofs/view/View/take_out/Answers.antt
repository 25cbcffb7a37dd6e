use Rattle.view_tree.proofs.Calls.{unchanged, nowhere, put_back, take_made}
use Rattle.view_tree.proofs.view.View.take_out.Goals as goal

pub returns-in_default-clause-err : goal.returns-in_default-clause-err
returns-in_default-clause-err c =
    let inside = c.self.inside.nodes.nodes in
    unchanged c.args.parent.now c.as_slice-path.result.now inside c.self.inside.drawn c.args.self.now c.as_slice-path.ensures c.self.view_is _
    (nowhere c.args.parent.now c.as_slice-path.result.now inside c.self.inside.drawn c.args.self.now c.as_slice-path.ensures c.self.view_is _
    c.in_default.ensures.list c.in_default.ensures.left)

pub returns-in-Some-remove-clause-ok : goal.returns-in-Some-remove-clause-ok
returns-in-Some-remove-clause-ok c =
    take_made c.args.parent.now c.as_slice-path.result.now c.self.inside.nodes.nodes c.self.inside.drawn c.args.self.now c.as_slice-path.ensures c.self.view_is
    c.args.index c.in-Some-remove.node c.in-Some.list.nodes c.remove.new.self.nodes c.take_list.new.nodes.nodes c.put_list.new.nodes.nodes
    c.count_change.new.nodes.nodes
    c.in-Some.ensures.list c.in-Some.ensures.left c.in-Some-remove.ensures.some c.put_list.ensures c.count_change.ensures.nodes

pub returns-in-None-clause-err : goal.returns-in-None-clause-err
returns-in-None-clause-err c =
    let inside = c.self.inside.nodes.nodes in
    unchanged c.args.parent.now c.as_slice-path.result.now inside c.self.inside.drawn c.args.self.now c.as_slice-path.ensures c.self.view_is _
    (put_back c.args.parent.now c.as_slice-path.result.now inside c.self.inside.drawn c.args.self.now c.as_slice-path.ensures c.self.view_is
    c.in-Some.list.nodes c.remove.new.self.nodes c.take_list.new.nodes.nodes c.put_list-in-None.new.nodes.nodes
    c.in-Some.ensures.list c.in-Some.ensures.left c.in-None.ensures.kept c.put_list-in-None.ensures)
