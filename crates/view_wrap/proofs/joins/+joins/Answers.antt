use Rattle.std.proofs.Common.{arith}
use Rattle.view_wrap.proofs.Meeting.{join_goes, last_depth, children_depth}
use Rattle.view_wrap.proofs.joins.+joins.Goals as goal

pub join_lists-meet-requires : goal.join_lists-meet-requires
join_lists-meet-requires t c = (omega (arith, c.decreases, last_depth _ _ _ c.in-Some.ensures.nodes), tt)

pub joined_layers-join_lists-requires : goal.joined_layers-join_lists-requires
joined_layers-join_lists-requires t c = (omega (arith, c.decreases, children_depth _ _ c.take_children-children.ensures.children), tt)

pub join_lists-returns : goal.join_lists-returns
join_lists-returns t c =
    join_goes _ _ _ _ _ _ _ _ c.in-Some.ensures.nodes c.in-Some-remove.ensures.some c.in_ok-meet.ensures c.in_ok-append.ensures.ok
