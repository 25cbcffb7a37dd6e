use Rattle.std.proofs.Common.{◌+◌, ◌++◌, ◌∷◌, [], drop, refl, sym, ap, ◌∙◌, subst, arith}
use Rattle.item_definitions.specs.Item.{depth_of}
use Rattle.model_tree.specs.Nodes.{items_at, items_in}
use Rattle.model_tree.proofs.Counts.{depth-append, depth-inner}
use Rattle.model_tree.proofs.Steps.{from_on}
use Rattle.post_fix.specs.Walked.{AreBelow}
use Rattle.post_fix.proofs.Walking.{dropped, normal_next, below_front, below_behind, below_long, below_inside}
use Rattle.product_objects.proofs.Indents.{next_wanted, run_puts}
use Rattle.product_objects.proofs.list_indent.+indents.Goals as goal

pub correct_inside-correct_node-requires : goal.correct_inside-correct_node-requires
correct_inside-correct_node-requires t c =
    let nodes = c.deref-node-items.result.now in
    let index = c.loop-node.node-index in
    let rest = items_in (drop (index + 1) nodes) in
    let next = from_on nodes nodes index c.node-item.result refl (omega arith) c.node-item.is in (
      omega (
        arith,
        c.decreases,
        ap depth_of c.nodes.ensures.items,
        ap (λ nodes. depth_of (items_in nodes)) c.deref-node-items.ensures.value,
        dropped index nodes,
        ap depth_of next,
        depth-append (items_at c.node-item.result) rest,
      ),
      (
        c.requires.key,
        below_front c.args.path.now c.loop-node.offset (items_in (drop index nodes)) (items_at c.node-item.result) rest next
            c.loop-node.invariant.below,
      ),
    )

pub correct_inside-overflow_cast-offset : goal.correct_inside-overflow_cast-offset
correct_inside-overflow_cast-offset t c =
    let nodes = c.deref-node-items.result.now in
    let index = c.loop-node.node-index in
    let next = from_on nodes nodes index c.node-item.result refl (omega arith) c.node-item.is in
    let below = below_front c.args.path.now c.loop-node.offset (items_in (drop index nodes)) (items_at c.node-item.result)
    (items_in (drop (index + 1) nodes)) next
    c.loop-node.invariant.below in
    omega (arith, below_long c.args.path.now c.loop-node.offset (items_at c.node-item.result) below, c.len.ensures)

pub correct_inside-overflow_add-offset : goal.correct_inside-overflow_add-offset
correct_inside-overflow_add-offset t c =
    let nodes = c.deref-node-items.result.now in
    let index = c.loop-node.node-index in
    let next = from_on nodes nodes index c.node-item.result refl (omega arith) c.node-item.is in
    let below = below_front c.args.path.now c.loop-node.offset (items_in (drop index nodes)) (items_at c.node-item.result)
    (items_in (drop (index + 1) nodes)) next
    c.loop-node.invariant.below in
    omega (arith, below_long c.args.path.now c.loop-node.offset (items_at c.node-item.result) below, c.len.ensures)

pub correct_inside-loop-node-preserved : goal.correct_inside-loop-node-preserved
correct_inside-loop-node-preserved t c =
    let nodes = c.deref-node-items.result.now in
    let index = c.loop-node.node-index in
    let rest = items_in (drop (index + 1) nodes) in
    let next = from_on nodes nodes index c.node-item.result refl (omega arith) c.node-item.is in
    let offset = ap (λ n. c.loop-node.offset + n) c.len.ensures in
    let normal = normal_next nodes index c.node-item.result (omega arith) c.node-item.is c.loop-node.invariant.normal in
    record {
      below = below_behind c.args.path.now c.loop-node.offset (c.loop-node.offset + c.len.result) (items_in (drop index nodes))
          (items_at c.node-item.result) rest next offset
          c.loop-node.invariant.below;
      normal = normal.1;
      going = next_wanted c.args.path.now c.loop-node.offset (c.loop-node.offset + c.len.result) c.loop-node.left c.in_ok-left.left
          c.node-item.result
          (items_in (drop index nodes)) rest c.loop-node.out.items c.correct_node.new.out.items _ next normal.0 offset
          c.in_ok-left.ensures.indent
          c.in_ok-left.ensures.wanted c.loop-node.invariant.going;
    }

pub correct_node-correct_inside-requires : goal.correct_node-correct_inside-requires
correct_node-correct_inside-requires t c = (
  omega (arith, c.decreases, ap (λ node. depth_of (items_at node)) c.in-Element.is, depth-inner c.in-Element.children),
  (
    c.requires.key,
    subst (λ path. AreBelow path 0 c.in-Element.children) (sym (c.push.ensures ∙ ap (λ path. path ++ c.args.offset ∷ []) c.copy-here.ensures))
        (below_inside c.args.path.now c.args.offset c.args.node.now c.in-Element.head c.in-Element.children c.in-Element.is c.requires.below),
  ),
)

pub correct_node-returns-in-Run-clause-wanted : goal.correct_node-returns-in-Run-clause-wanted
correct_node-returns-in-Run-clause-wanted t c =
    run_puts c.args.path.now c.args.offset c.args.left c.args.node.now c.in-Run.field-0 c.args.out.now.items c.in-Run.is
