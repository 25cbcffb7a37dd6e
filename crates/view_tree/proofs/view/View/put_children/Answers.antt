use Rattle.std.proofs.Common.{refl}
use Rattle.view_tree.proofs.Calls.{unchanged, nowhere, put_back, fill_made}
use Rattle.view_tree.proofs.view.View.put_children.Goals as goal

pub returns-in_default-clause-err : goal.returns-in_default-clause-err
returns-in_default-clause-err c =
    let inside = c.self.inside.nodes.nodes in
    unchanged c.args.parent.now c.as_slice-path.result.now inside c.self.inside.drawn c.args.self.now c.as_slice-path.ensures c.self.view_is _
    (nowhere c.args.parent.now c.as_slice-path.result.now inside c.self.inside.drawn c.args.self.now c.as_slice-path.ensures c.self.view_is _
    c.in_default.ensures.list c.in_default.ensures.left)

pub returns-then-not-is_empty-clause-err : goal.returns-then-not-is_empty-clause-err
returns-then-not-is_empty-clause-err c =
    let inside = c.self.inside.nodes.nodes in
    unchanged c.args.parent.now c.as_slice-path.result.now inside c.self.inside.drawn c.args.self.now c.as_slice-path.ensures c.self.view_is _
    (put_back c.args.parent.now c.as_slice-path.result.now inside c.self.inside.drawn c.args.self.now c.as_slice-path.ensures c.self.view_is
    c.in-Some.list.nodes c.in-Some.list.nodes c.take_list.new.nodes.nodes c.put_list.new.nodes.nodes
    c.in-Some.ensures.list c.in-Some.ensures.left refl c.put_list.ensures)

pub returns-clause-ok : goal.returns-clause-ok
returns-clause-ok c =
    fill_made c.args.parent.now c.as_slice-path.result.now c.self.inside.nodes.nodes c.self.inside.drawn c.args.self.now c.as_slice-path.ensures c.self.view_is
    c.args.children.nodes c.in-Some.list.nodes c.take_list.new.nodes.nodes c.put_list-2.new.nodes.nodes c.count_change.new.nodes.nodes
    c.in-Some.ensures.list c.in-Some.ensures.left (c.if-not-is_empty.ensures.0 refl) c.put_list-2.ensures c.count_change.ensures.nodes
