use Rattle.std.proofs.Common.{◌+◌, ◌++◌, ◌∷◌, [], drop, length, refl, sym, ap, ◌∙◌, subst, arith}
use Rattle.item_definitions.specs.Item.{depth_of}
use Rattle.std.proofs.lemmas.List.{drop_all}
use Rattle.model_tree.specs.Nodes.{items_at, items_in, IsNormal}
use Rattle.model_tree.proofs.Counts.{depth-append, depth-inner}
use Rattle.model_tree.proofs.Steps.{from_on}
use Rattle.post_fix.specs.Dropped.{node_dropped}
use Rattle.post_fix.specs.Walked.{AreBelow}
use Rattle.post_fix.proofs.Walking.{dropped, below_front, below_behind, below_long, below_inside}
use Rattle.post_fix.proofs.Denied.{next_dropped, inside_dropped, long}
use Rattle.post_fix.proofs.walk.Walk.+dropping.Goals as goal

pub drop_inside-drop_node-requires : goal.drop_inside-drop_node-requires
drop_inside-drop_node-requires t c =
    let nodes = c.deref-node-items.result.now in
    let index = c.loop-node.node-index in
    let rest = items_in (drop (index + 1) nodes) in
    let next = from_on nodes nodes index c.node-item.result refl (omega arith) c.node-item.is in (
      omega (
        arith,
        c.decreases,
        ap depth_of c.nodes.ensures.items,
        ap (λ nodes. depth_of (items_in nodes)) c.deref-node-items.ensures.value,
        dropped index nodes,
        ap depth_of next,
        depth-append (items_at c.node-item.result) rest,
      ),
      below_front c.args.path.now c.loop-node.offset (items_in (drop index nodes)) (items_at c.node-item.result) rest next c.loop-node.invariant.below,
    )

pub drop_node-drop_from_text-requires-clause-few : goal.drop_node-drop_from_text-requires-clause-few
drop_node-drop_from_text-requires-clause-few t c =
    omega (
      arith,
      below_long c.args.path.now c.args.offset (items_at c.args.node.now) c.requires,
      ap (λ node. length (items_at node)) c.in-Run.is,
      long c.in-Run.text.scalars c.in-Run.text.attributes,
    )

pub drop_node-drop_inside-requires : goal.drop_node-drop_inside-requires
drop_node-drop_inside-requires t c = (
  omega (arith, c.decreases, ap (λ node. depth_of (items_at node)) c.in-Element.is, depth-inner c.in-Element.children),
  subst (λ path. AreBelow path 0 c.in-Element.children) (sym (c.push.ensures ∙ ap (λ path. path ++ c.args.offset ∷ []) c.copy-here.ensures))
      (below_inside c.args.path.now c.args.offset c.args.node.now c.in-Element.head c.in-Element.children c.in-Element.is c.requires),
)

pub drop_inside-overflow_cast-offset : goal.drop_inside-overflow_cast-offset
drop_inside-overflow_cast-offset t c =
    let nodes = c.deref-node-items.result.now in
    let index = c.loop-node.node-index in
    let next = from_on nodes nodes index c.node-item.result refl (omega arith) c.node-item.is in
    let below = below_front c.args.path.now c.loop-node.offset (items_in (drop index nodes)) (items_at c.node-item.result)
    (items_in (drop (index + 1) nodes)) next c.loop-node.invariant.below in
    omega (arith, below_long c.args.path.now c.loop-node.offset (items_at c.node-item.result) below, c.len.ensures)

pub drop_inside-overflow_add-offset : goal.drop_inside-overflow_add-offset
drop_inside-overflow_add-offset t c =
    let nodes = c.deref-node-items.result.now in
    let index = c.loop-node.node-index in
    let next = from_on nodes nodes index c.node-item.result refl (omega arith) c.node-item.is in
    let below = below_front c.args.path.now c.loop-node.offset (items_in (drop index nodes)) (items_at c.node-item.result)
    (items_in (drop (index + 1) nodes)) next c.loop-node.invariant.below in
    omega (arith, below_long c.args.path.now c.loop-node.offset (items_at c.node-item.result) below, c.len.ensures)

pub drop_inside-loop-node-preserved : goal.drop_inside-loop-node-preserved
drop_inside-loop-node-preserved t c =
    let nodes = c.deref-node-items.result.now in
    let index = c.loop-node.node-index in
    let rest = items_in (drop (index + 1) nodes) in
    let next = from_on nodes nodes index c.node-item.result refl (omega arith) c.node-item.is in
    let offset = ap (λ n. c.loop-node.offset + n) c.len.ensures in
    record {
      back = c.in_ok-drop_node.ensures.back ∙ c.loop-node.invariant.back;
      below = below_behind c.args.path.now c.loop-node.offset (c.loop-node.offset + c.len.result) (items_in (drop index nodes))
          (items_at c.node-item.result) rest next offset
          c.loop-node.invariant.below;
      going = next_dropped c.args.self.now.schema.now c.args.names.now.items c.args.path.now nodes index c.loop-node.offset
          (c.loop-node.offset + c.len.result) c.node-item.result c.loop-node.out.items c.drop_node.new.out.items _ (omega arith) c.node-item.is offset
          (c.in_ok-drop_node.ensures.dropped ∙ ap (λ names. c.loop-node.out.items
          ++ node_dropped c.args.self.now.schema.now names c.args.path.now c.loop-node.offset c.node-item.result) c.loop-node.invariant.back)
          c.loop-node.invariant.going;
    }

pub drop_inside-returns-clause-dropped : goal.drop_inside-returns-clause-dropped
drop_inside-returns-clause-dropped t c =
    let nodes = c.deref-node-items.result.now in
    inside_dropped c.args.self.now.schema.now c.args.names.now.items c.args.path.now nodes (drop c.loop-node.node-index nodes) c.args.items.now
    c.loop-node.offset c.args.out.now.items c.loop-node.out.items (drop_all c.loop-node.node-index nodes (omega arith))
    (ap items_in c.deref-node-items.ensures.value ∙ c.nodes.ensures.items) (subst IsNormal (sym c.deref-node-items.ensures.value) c.nodes.ensures.normal)
    c.loop-node.invariant.going
