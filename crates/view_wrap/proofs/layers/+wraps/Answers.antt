use Rattle.std.proofs.Common.{arith, [], ◌∷◌, refl, ap, ◌∙◌}
use Rattle.view_definitions.specs.Row.{join}
use Rattle.view_wrap.proofs.Meeting.{last_depth, children_depth}
use Rattle.view_wrap.proofs.Passes.{wraps_begun, wraps_gone_on, wraps_ended, reversed_depth, rest_depth}
use Rattle.view_wrap.proofs.layers.+wraps.Goals as goal

pub wrap_list-loop-node-init : goal.wrap_list-loop-node-init
wrap_list-loop-node-init t c =
    record {
      made = wraps_begun c.args.layer.now _ _ c.args.nodes.nodes c.new-made.ensures c.reverse.ensures.nodes;
      depth = reversed_depth _ c.args.nodes.nodes c.reverse.ensures.nodes;
    }

pub wrap_list-wrap_node-requires : goal.wrap_list-wrap_node-requires
wrap_list-wrap_node-requires t c = (omega (arith, c.decreases, c.loop-node.invariant.depth, last_depth _ _ _ c.in-Some.ensures.nodes), tt)

pub wrap_list-loop-node-preserved : goal.wrap_list-loop-node-preserved
wrap_list-loop-node-preserved t c =
    record {
      made = wraps_gone_on c.args.layer.now c.loop-node.made.nodes c.loop-node.nodes.nodes _ _ _ _ c.loop-node.invariant.made c.in-Some.ensures.nodes
          (c.in_ok-push_joined.ensures ∙ ap (λ node. join c.loop-node.made.nodes (node ∷ [])) c.in_ok-wrapped.ensures);
      depth = omega (arith, c.loop-node.invariant.depth, rest_depth _ _ _ c.in-Some.ensures.nodes);
    }

pub wrap_list-returns : goal.wrap_list-returns
wrap_list-returns t c = wraps_ended c.args.layer.now c.loop-node.made.nodes c.loop-node.nodes.nodes _ c.loop-node.invariant.made
    (c.in_default.ensures.none.0 refl)

pub wrap_inside-wrap_list-requires : goal.wrap_inside-wrap_list-requires
wrap_inside-wrap_list-requires t c = (omega (arith, c.decreases, children_depth _ _ c.take_children-children.ensures.children), tt)
