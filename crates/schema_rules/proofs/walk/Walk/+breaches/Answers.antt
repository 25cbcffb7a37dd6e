use Rattle.std.proofs.Common.{◌≡◌, Some, None, ◌+◌, false, refl, drop, ap, sym, ◌∙◌, subst, arith}
use Rattle.std.specs.Prelude.{IfOk}
use Rattle.std.proofs.lemmas.List.{drop_all}
use Rattle.item_definitions.specs.Item.{depth_of}
use Rattle.model_tree.specs.Nodes.{items_at, items_in}
use Rattle.model_tree.proofs.Counts.{depth-append, depth-inner}
use Rattle.model_tree.proofs.Steps.{from_on}
use Rattle.schema_definitions.specs.Allowed.{check_child}
use Rattle.schema_rules.specs.Chosen.{AreThere, inside, last_passes, breach_from}
use Rattle.schema_rules.proofs.Standing.{passes_inside}
use Rattle.schema_rules.proofs.Placing.{found_here, found_behind, found_nowhere, there_front, there_behind, there_long, there_inside, dropped, none_chosen}
use Rattle.schema_rules.proofs.Placing.{element_is}
use Rattle.schema_rules.proofs.walk.Walk.+breaches.Goals as goal

pub breach_below-breach_of_node-requires : goal.breach_below-breach_of_node-requires
breach_below-breach_of_node-requires t c =
    let nodes = c.deref-node-items.result.now in
    let index = c.loop-node.node-index in
    let rest = items_in (drop (index + 1) nodes) in
    let next = from_on nodes nodes index c.node-item.result refl (omega arith) c.node-item.is in
    let back = c.loop-node.invariant.back in
    let there = there_front c.args.above.now c.loop-node.index (items_in (drop index nodes)) (items_at c.node-item.result) rest next
    c.loop-node.invariant.there in (
      omega (
        arith,
        c.decreases,
        ap depth_of c.nodes.ensures.items,
        ap (λ nodes. depth_of (items_in nodes)) c.deref-node-items.ensures.value,
        dropped index nodes,
        ap depth_of next,
        depth-append (items_at c.node-item.result) rest,
      ),
      (
        c.requires.passing ∙ ap (λ above. last_passes c.args.self.now.schema.now above.names) (sym back),
        subst (λ above. AreThere above c.loop-node.index (items_at c.node-item.result)) (sym back) there,
      ),
    )

pub breach_below-returns-in-Some-clause-found : goal.breach_below-returns-in-Some-clause-found
breach_below-returns-in-Some-clause-found t c =
    let nodes = c.deref-node-items.result.now in
    let index = c.loop-node.node-index in
    let next = from_on nodes nodes index c.node-item.result refl (omega arith) c.node-item.is in
    found_here c.args.self.now.schema.now c.args.chosen.now c.args.above.now c.loop-node.index (items_in (drop index nodes))
    (items_at c.node-item.result) (items_in (drop (index + 1) nodes)) c.in-Some.breach next
    (sym c.in-Some.is ∙ c.in_ok-breach.ensures.found
    ∙ ap (λ above. breach_from c.args.self.now.schema.now c.args.chosen.now above c.loop-node.index (items_at c.node-item.result)) c.loop-node.invariant.back)
    ∙ c.loop-node.invariant.found

pub breach_below-overflow_cast-index : goal.breach_below-overflow_cast-index
breach_below-overflow_cast-index t c =
    let nodes = c.deref-node-items.result.now in
    let index = c.loop-node.node-index in
    let next = from_on nodes nodes index c.node-item.result refl (omega arith) c.node-item.is in
    let there = there_front c.args.above.now c.loop-node.index (items_in (drop index nodes)) (items_at c.node-item.result)
    (items_in (drop (index + 1) nodes)) next c.loop-node.invariant.there in
    omega (arith, there_long c.args.above.now c.loop-node.index (items_at c.node-item.result) there, c.len.ensures)

pub breach_below-overflow_add-index : goal.breach_below-overflow_add-index
breach_below-overflow_add-index t c =
    let nodes = c.deref-node-items.result.now in
    let index = c.loop-node.node-index in
    let next = from_on nodes nodes index c.node-item.result refl (omega arith) c.node-item.is in
    let there = there_front c.args.above.now c.loop-node.index (items_in (drop index nodes)) (items_at c.node-item.result)
    (items_in (drop (index + 1) nodes)) next c.loop-node.invariant.there in
    omega (arith, there_long c.args.above.now c.loop-node.index (items_at c.node-item.result) there, c.len.ensures)

pub breach_below-loop-node-preserved : goal.breach_below-loop-node-preserved
breach_below-loop-node-preserved t c =
    let nodes = c.deref-node-items.result.now in
    let index = c.loop-node.node-index in
    let next = from_on nodes nodes index c.node-item.result refl (omega arith) c.node-item.is in
    record {
      back = c.in_ok-breach.ensures.back ∙ c.loop-node.invariant.back;
      there = there_behind c.args.above.now c.loop-node.index (c.loop-node.index + c.len.result) (items_in (drop index nodes))
          (items_at c.node-item.result) (items_in (drop (index + 1) nodes)) next c.loop-node.invariant.there
          (ap (λ n. c.loop-node.index + n) c.len.ensures);
      found = found_behind c.args.self.now.schema.now c.args.chosen.now c.args.above.now c.loop-node.index (c.loop-node.index + c.len.result)
          (items_in (drop index nodes)) (items_at c.node-item.result) (items_in (drop (index + 1) nodes)) next
          (sym c.in-None.is ∙ c.in_ok-breach.ensures.found
          ∙ ap (λ above. breach_from c.args.self.now.schema.now c.args.chosen.now above c.loop-node.index (items_at c.node-item.result))
          c.loop-node.invariant.back)
          (ap (λ n. c.loop-node.index + n) c.len.ensures)
          ∙ c.loop-node.invariant.found;
    }

pub breach_below-returns-clause-found : goal.breach_below-returns-clause-found
breach_below-returns-clause-found t c =
    found_nowhere c.args.self.now.schema.now c.args.chosen.now c.args.above.now c.loop-node.index
    (items_in (drop c.loop-node.node-index c.deref-node-items.result.now))
    (ap items_in (drop_all c.loop-node.node-index c.deref-node-items.result.now (omega arith)))
    ∙ c.loop-node.invariant.found

pub breach_of_element-returns-then-is_none-clause-found : goal.breach_of_element-returns-then-is_none-clause-found
breach_of_element-returns-then-is_none-clause-found t c =
    let name = c.args.parts.head.now.name in
    none_chosen c.args.self.now.schema.now c.in_ok-below.below (inside c.args.above.now name c.args.index) 0 c.args.parts.children.now
    (c.is_none.ensures c.if-is_none.true)
    ∙ element_is c.args.self.now.schema.now c.args.chosen.now c.in_ok-below.below c.args.above.now c.args.index c.args.parts.head.now name
    c.args.parts.children.now false None refl refl (sym c.if-not-tested.true ∙ c.has-tested.ensures) c.in_ok-below.ensures

pub breach_of_element-breach_inside-requires : goal.breach_of_element-breach_inside-requires
breach_of_element-breach_inside-requires t c =
    let rules = c.args.self.now.schema.now in
    let above = c.args.above.now in
    let head = c.args.parts.head.now in (
      omega (arith, c.decreases),
      (
        c.may_stand-allowed.ensures ∙ (λ i. check_child rules (c.names.ensures i) (c.name.ensures i))
            ∙ passes_inside rules above.names head.name c.requires.there.named,
        there_inside above c.args.index head.id head.name head.attributes c.args.parts.children.now c.requires.there,
      ),
    )

pub breach_of_element-returns-in-Some-clause-found : goal.breach_of_element-returns-in-Some-clause-found
breach_of_element-returns-in-Some-clause-found t c =
    element_is c.args.self.now.schema.now c.args.chosen.now c.in_ok-below.below c.args.above.now c.args.index c.args.parts.head.now
    c.args.parts.head.now.name c.args.parts.children.now c.has-tested.result (Some c.in-Some.breach) refl
    (sym c.in-Some.is ∙ c.in_ok-breach.ensures) c.has-tested.ensures c.in_ok-below.ensures

pub breach_of_element-returns-in-None-clause-found : goal.breach_of_element-returns-in-None-clause-found
breach_of_element-returns-in-None-clause-found t c =
    subst (λ wanted. IfOk c.breach_inside.result (λ found. found ≡ wanted))
    (element_is c.args.self.now.schema.now c.args.chosen.now c.in_ok-below.below c.args.above.now c.args.index c.args.parts.head.now
    c.args.parts.head.now.name c.args.parts.children.now c.has-tested.result None refl
    (sym c.in-None.is ∙ c.in_ok-breach.ensures) c.has-tested.ensures c.in_ok-below.ensures)
    c.breach_inside.ensures.found

pub breach_of_node-breach_of_element-requires : goal.breach_of_node-breach_of_element-requires
breach_of_node-breach_of_element-requires t c = (
  omega (arith, c.decreases, ap (λ node. depth_of (items_at node)) c.in-Element.is, depth-inner c.in-Element.children),
  (c.requires.passing, subst (λ node. AreThere c.args.above.now c.args.index (items_at node)) c.in-Element.is c.requires.there),
)

pub breach_inside-returns-then-is_none-clause-found : goal.breach_inside-returns-then-is_none-clause-found
breach_inside-returns-then-is_none-clause-found t c =
    none_chosen c.args.self.now.schema.now c.args.chosen (inside c.args.above.now c.args.parts.head.now.name c.args.index) 0 c.args.parts.children.now
    (c.is_none.ensures c.if-is_none.true)
