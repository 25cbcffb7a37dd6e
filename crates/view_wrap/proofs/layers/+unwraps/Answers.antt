use Rattle.std.proofs.Common.{arith, refl, ap, ◌∙◌}
use Rattle.view_definitions.specs.Row.{join}
use Rattle.view_wrap.proofs.Meeting.{last_depth, children_depth}
use Rattle.view_wrap.proofs.Passes.{unwraps_begun, unwraps_gone_on, unwraps_ended, reversed_depth, rest_depth}
use Rattle.view_wrap.proofs.layers.+unwraps.Goals as goal

pub unwrap_list-loop-node-init : goal.unwrap_list-loop-node-init
unwrap_list-loop-node-init t c =
    record {
      made = unwraps_begun c.args.layer.now _ _ c.args.nodes.nodes c.new-made.ensures c.reverse.ensures.nodes;
      depth = reversed_depth _ c.args.nodes.nodes c.reverse.ensures.nodes;
    }

pub unwrap_list-unwrap_node-requires : goal.unwrap_list-unwrap_node-requires
unwrap_list-unwrap_node-requires t c = (omega (arith, c.decreases, c.loop-node.invariant.depth, last_depth _ _ _ c.in-Some.ensures.nodes), tt)

pub unwrap_list-loop-node-preserved : goal.unwrap_list-loop-node-preserved
unwrap_list-loop-node-preserved t c =
    record {
      made = unwraps_gone_on c.args.layer.now c.loop-node.made.nodes c.loop-node.nodes.nodes _ _ _ _ c.loop-node.invariant.made c.in-Some.ensures.nodes
          (c.in_ok-join_lists.ensures ∙ ap (join c.loop-node.made.nodes) c.in_ok-unwrapped.ensures);
      depth = omega (arith, c.loop-node.invariant.depth, rest_depth _ _ _ c.in-Some.ensures.nodes);
    }

pub unwrap_list-returns : goal.unwrap_list-returns
unwrap_list-returns t c = unwraps_ended c.args.layer.now c.loop-node.made.nodes c.loop-node.nodes.nodes _ c.loop-node.invariant.made
    (c.in_default.ensures.none.0 refl)

pub unwrap_layer-unwrap_list-requires : goal.unwrap_layer-unwrap_list-requires
unwrap_layer-unwrap_list-requires t c = (omega (arith, c.decreases, children_depth _ _ c.take_children-children.ensures.children), tt)
