use Rattle.std.proofs.Common.{◌+◌, drop, refl, ap, sym, ◌∙◌, arith}
use Rattle.std.proofs.lemmas.List.{drop_all}
use Rattle.item_definitions.specs.Item.{count_of, depth_of}
use Rattle.model_tree.specs.Nodes.{items_at, items_in}
use Rattle.model_tree.proofs.Counts.{count-append, count-inner, depth-append, depth-inner}
use Rattle.model_tree.proofs.Steps.{from_on}
use Rattle.live_selection.specs.Within.{first_from}
use Rattle.live_selection.proofs.Looking.{found_here, found_behind, found_nowhere, found_no_more, dropped, element_inside, element_outside}
use Rattle.item_definitions.proofs.Sizes.{length-count}
use Rattle.live_selection.proofs.natural.+first.Goals as goal

pub first_in_items-returns-then-are_before : goal.first_in_items-returns-then-are_before
first_in_items-returns-then-are_before t c =
    found_no_more c.args.bounds c.loop-node.index (items_in (drop c.loop-node.node-index c.deref-node-items.result.now))
    (c.are_before.ensures.nothing c.if-are_before.true) ∙ c.loop-node.invariant.found

pub first_in_items-first_in_node-requires : goal.first_in_items-first_in_node-requires
first_in_items-first_in_node-requires t c =
    let nodes = c.deref-node-items.result.now in
    let index = c.loop-node.node-index in
    let rest = items_in (drop (index + 1) nodes) in
    let next = from_on nodes nodes index c.node-item.result refl (omega arith) c.node-item.is in (
      omega (
        arith,
        c.decreases,
        ap depth_of c.nodes.ensures.items,
        ap (λ nodes. depth_of (items_in nodes)) c.deref-node-items.ensures.value,
        dropped index nodes,
        ap depth_of next,
        depth-append (items_at c.node-item.result) rest,
      ),
      omega (arith, c.loop-node.invariant.few, ap count_of next, count-append (items_at c.node-item.result) rest),
    )

pub first_in_items-returns-in-Some : goal.first_in_items-returns-in-Some
first_in_items-returns-in-Some t c =
    let nodes = c.deref-node-items.result.now in
    let index = c.loop-node.node-index in
    let next = from_on nodes nodes index c.node-item.result refl (omega arith) c.node-item.is in
    found_here c.args.bounds c.loop-node.index (items_in (drop index nodes)) (items_at c.node-item.result) (items_in (drop (index + 1) nodes))
    c.in-Some.attrs.now next c.in-Some.ensures
    ∙ c.loop-node.invariant.found

pub first_in_items-overflow_cast-index : goal.first_in_items-overflow_cast-index
first_in_items-overflow_cast-index t c =
    let nodes = c.deref-node-items.result.now in
    let index = c.loop-node.node-index in
    let rest = items_in (drop (index + 1) nodes) in
    let next = from_on nodes nodes index c.node-item.result refl (omega arith) c.node-item.is in
    omega (
      arith,
      c.loop-node.invariant.few,
      ap count_of next,
      count-append (items_at c.node-item.result) rest,
      length-count (items_at c.node-item.result),
      c.len.ensures,
    )

pub first_in_items-overflow_add-index : goal.first_in_items-overflow_add-index
first_in_items-overflow_add-index t c =
    let nodes = c.deref-node-items.result.now in
    let index = c.loop-node.node-index in
    let rest = items_in (drop (index + 1) nodes) in
    let next = from_on nodes nodes index c.node-item.result refl (omega arith) c.node-item.is in
    omega (
      arith,
      c.loop-node.invariant.few,
      ap count_of next,
      count-append (items_at c.node-item.result) rest,
      length-count (items_at c.node-item.result),
      c.len.ensures,
    )

pub first_in_items-loop-node-preserved : goal.first_in_items-loop-node-preserved
first_in_items-loop-node-preserved t c =
    let nodes = c.deref-node-items.result.now in
    let index = c.loop-node.node-index in
    let rest = items_in (drop (index + 1) nodes) in
    let next = from_on nodes nodes index c.node-item.result refl (omega arith) c.node-item.is in
    record {
      few = omega (
        arith,
        c.loop-node.invariant.few,
        ap count_of next,
        count-append (items_at c.node-item.result) rest,
        length-count (items_at c.node-item.result),
        c.len.ensures,
      );
      found = found_behind c.args.bounds c.loop-node.index (c.loop-node.index + c.len.result) (items_in (drop index nodes))
          (items_at c.node-item.result) rest next c.in_default.ensures (ap (λ n. c.loop-node.index + n) c.len.ensures)
          ∙ c.loop-node.invariant.found;
    }

pub first_in_items-returns : goal.first_in_items-returns
first_in_items-returns t c =
    found_nowhere c.args.bounds c.loop-node.index (items_in (drop c.loop-node.node-index c.deref-node-items.result.now))
    (ap items_in (drop_all c.loop-node.node-index c.deref-node-items.result.now (omega arith)))
    ∙ c.loop-node.invariant.found

pub first_in_node-first_in_items-requires : goal.first_in_node-first_in_items-requires
first_in_node-first_in_items-requires t c = (
  omega (arith, c.decreases, ap (λ node. depth_of (items_at node)) c.in-Element.is, depth-inner c.in-Element.children),
  omega (arith, c.requires, ap (λ node. count_of (items_at node)) c.in-Element.is, count-inner c.in-Element.children),
)

pub first_in_node-returns-in-Some : goal.first_in_node-returns-in-Some
first_in_node-returns-in-Some t c =
    let head = c.in-Element.field-0 in
    c.first_in_items.ensures
    ∙ element_inside c.args.bounds c.in-Some.bounds c.args.index head.id head.name head.attributes c.in-Element.children c.in-Some.ensures
    ∙ ap (λ node. first_from c.args.bounds c.args.index (items_at node)) (sym c.in-Element.is)

pub first_in_node-returns-in-None : goal.first_in_node-returns-in-None
first_in_node-returns-in-None t c =
    let head = c.in-Element.field-0 in
    element_outside c.args.bounds c.args.index head.id head.name head.attributes c.in-Element.children c.in-None.ensures
    ∙ ap (λ node. first_from c.args.bounds c.args.index (items_at node)) (sym c.in-Element.is)
