use Rattle.view_tree.proofs.Calls.{unchanged, nowhere, put_back, place_made}
use Rattle.view_tree.proofs.view.View.place.Goals as goal

pub returns-in_default-clause-err : goal.returns-in_default-clause-err
returns-in_default-clause-err c =
    let inside = c.self.inside.nodes.nodes in
    unchanged c.args.parent.now c.as_slice-path.result.now inside c.self.inside.drawn c.args.self.now c.as_slice-path.ensures c.self.view_is _
    (nowhere c.args.parent.now c.as_slice-path.result.now inside c.self.inside.drawn c.args.self.now c.as_slice-path.ensures c.self.view_is _
    c.in_default.ensures.list c.in_default.ensures.left)

pub returns-in-Ok-clause-ok : goal.returns-in-Ok-clause-ok
returns-in-Ok-clause-ok c =
    place_made c.args.parent.now c.as_slice-path.result.now c.self.inside.nodes.nodes c.self.inside.drawn c.args.self.now c.as_slice-path.ensures c.self.view_is
    c.args.index c.args.node c.in-Some.list.nodes c.insert.new.self.nodes c.take_list.new.nodes.nodes c.put_list.new.nodes.nodes c.count_change.new.nodes.nodes
    c.in-Some.ensures.list c.in-Some.ensures.left c.in-Ok.ensures.ok c.put_list.ensures c.count_change.ensures.nodes

pub returns-in-Err-clause-err : goal.returns-in-Err-clause-err
returns-in-Err-clause-err c =
    let inside = c.self.inside.nodes.nodes in
    unchanged c.args.parent.now c.as_slice-path.result.now inside c.self.inside.drawn c.args.self.now c.as_slice-path.ensures c.self.view_is _
    (put_back c.args.parent.now c.as_slice-path.result.now inside c.self.inside.drawn c.args.self.now c.as_slice-path.ensures c.self.view_is
    c.in-Some.list.nodes c.insert.new.self.nodes c.take_list.new.nodes.nodes c.put_list-in-Err.new.nodes.nodes
    c.in-Some.ensures.list c.in-Some.ensures.left c.in-Err.ensures.err c.put_list-in-Err.ensures)
