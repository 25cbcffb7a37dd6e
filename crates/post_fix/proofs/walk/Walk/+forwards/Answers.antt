use Rattle.std.proofs.Common.{◌+◌, ◌++◌, ◌∷◌, [], drop, length, refl, sym, ap, ◌∙◌, subst, arith}
use Rattle.item_definitions.specs.Item.{depth_of, items_of}
use Rattle.model_tree.specs.Nodes.{items_at, items_in}
use Rattle.model_tree.proofs.Counts.{depth-append, depth-inner}
use Rattle.model_tree.proofs.Steps.{from_on}
use Rattle.std.specs.Option.{option_or}
use Rattle.post_fix.specs.Nearest.{first_behind}
use Rattle.post_fix.specs.Walked.{AreBelow}
use Rattle.post_fix.proofs.Walking.{dropped, below_front, below_behind, below_long, below_inside}
use Rattle.post_fix.proofs.Seeking.{first_next, first_in_run}
use Rattle.post_fix.proofs.walk.Walk.+forwards.Goals as goal

pub first_behind-first_in_node-requires : goal.first_behind-first_in_node-requires
first_behind-first_in_node-requires t c =
    let nodes = c.deref-node-items.result.now in
    let index = c.loop-node.node-index in
    let rest = items_in (drop (index + 1) nodes) in
    let next = from_on nodes nodes index c.node-item.result refl (omega arith) c.node-item.is in (
      omega (
        arith,
        c.decreases,
        ap depth_of c.nodes.ensures.items,
        ap (λ nodes. depth_of (items_in nodes)) c.deref-node-items.ensures.value,
        dropped index nodes,
        ap depth_of next,
        depth-append (items_at c.node-item.result) rest,
      ),
      below_front c.args.path.now c.loop-node.offset (items_in (drop index nodes)) (items_at c.node-item.result) rest next c.loop-node.invariant.below,
    )

pub first_behind-overflow_cast-offset : goal.first_behind-overflow_cast-offset
first_behind-overflow_cast-offset t c =
    let nodes = c.deref-node-items.result.now in
    let index = c.loop-node.node-index in
    let next = from_on nodes nodes index c.node-item.result refl (omega arith) c.node-item.is in
    let below = below_front c.args.path.now c.loop-node.offset (items_in (drop index nodes)) (items_at c.node-item.result)
    (items_in (drop (index + 1) nodes)) next c.loop-node.invariant.below in
    omega (arith, below_long c.args.path.now c.loop-node.offset (items_at c.node-item.result) below, c.len.ensures)

pub first_behind-overflow_add-offset : goal.first_behind-overflow_add-offset
first_behind-overflow_add-offset t c =
    let nodes = c.deref-node-items.result.now in
    let index = c.loop-node.node-index in
    let next = from_on nodes nodes index c.node-item.result refl (omega arith) c.node-item.is in
    let below = below_front c.args.path.now c.loop-node.offset (items_in (drop index nodes)) (items_at c.node-item.result)
    (items_in (drop (index + 1) nodes)) next c.loop-node.invariant.below in
    omega (arith, below_long c.args.path.now c.loop-node.offset (items_at c.node-item.result) below, c.len.ensures)

pub first_in_node-first_here-requires : goal.first_in_node-first_here-requires
first_in_node-first_here-requires t c = (
  omega (arith, c.decreases, ap (λ node. depth_of (items_at node)) c.in-Element.is, depth-inner c.in-Element.children),
  subst (λ path. AreBelow path 0 c.in-Element.children) (sym (c.push.ensures ∙ ap (λ path. path ++ c.args.offset ∷ []) c.copy-here.ensures))
      (below_inside c.args.path.now c.args.offset c.args.node.now c.in-Element.head c.in-Element.children c.in-Element.is c.requires),
)

pub first_in_node-returns-in-Run-clause-found : goal.first_in_node-returns-in-Run-clause-found
first_in_node-returns-in-Run-clause-found t c =
    first_in_run c.args.self.now.schema.now c.args.names.now.items c.args.path.now c.args.from c.args.offset _ c.args.node.now c.in-Run.is

pub first_behind-returns-in-Some-clause-found : goal.first_behind-returns-in-Some-clause-found
first_behind-returns-in-Some-clause-found t c =
    let nodes = c.deref-node-items.result.now in
    let index = c.loop-node.node-index in
    let rest = items_in (drop (index + 1) nodes) in
    let behind = c.loop-node.offset + length (items_at c.node-item.result) in
    ap (λ o. option_or o (first_behind c.args.self.now.schema.now c.args.names.now.items c.args.path.now c.args.from behind (items_of rest)))
    (sym c.in-Some.is)
    ∙ first_next c.args.self.now.schema.now c.args.names.now.items c.args.path.now c.args.from c.loop-node.offset behind (items_in (drop index nodes))
    (items_at c.node-item.result) rest c.in_ok-found.field-0 _ (from_on nodes nodes index c.node-item.result refl (omega arith) c.node-item.is) refl
    (c.in_ok-found.ensures.found ∙ ap (λ names. first_behind c.args.self.now.schema.now names c.args.path.now c.args.from c.loop-node.offset
    (items_of (items_at c.node-item.result))) c.loop-node.invariant.back)
    c.loop-node.invariant.found

pub first_behind-loop-node-preserved : goal.first_behind-loop-node-preserved
first_behind-loop-node-preserved t c =
    let nodes = c.deref-node-items.result.now in
    let index = c.loop-node.node-index in
    let rest = items_in (drop (index + 1) nodes) in
    let next = from_on nodes nodes index c.node-item.result refl (omega arith) c.node-item.is in
    let offset = ap (λ n. c.loop-node.offset + n) c.len.ensures in
    record {
      back = c.in_ok-found.ensures.back ∙ c.loop-node.invariant.back;
      below = below_behind c.args.path.now c.loop-node.offset (c.loop-node.offset + c.len.result) (items_in (drop index nodes))
          (items_at c.node-item.result) rest next offset c.loop-node.invariant.below;
      found = ap (λ o. option_or o (first_behind c.args.self.now.schema.now c.args.names.now.items c.args.path.now c.args.from
          (c.loop-node.offset + c.len.result) (items_of rest))) (sym c.in-None.is)
          ∙ first_next c.args.self.now.schema.now c.args.names.now.items c.args.path.now c.args.from c.loop-node.offset
          (c.loop-node.offset + c.len.result) (items_in (drop index nodes)) (items_at c.node-item.result) rest c.in_ok-found.field-0 _ next offset
          (c.in_ok-found.ensures.found ∙ ap (λ names. first_behind c.args.self.now.schema.now names c.args.path.now c.args.from c.loop-node.offset
          (items_of (items_at c.node-item.result))) c.loop-node.invariant.back)
          c.loop-node.invariant.found;
    }
