use Rattle.std.proofs.Common.{◌≡◌, ◌+◌, ◌++◌, ◌∷◌, [], drop, length, refl, sym, ap, ◌∙◌, subst, arith}
use Rattle.std.specs.Prelude.{OnOk, option_copied}
use Rattle.item_definitions.specs.Item.{depth_of, items_of}
use Rattle.item_definitions.specs.Children.{offset_of}
use Rattle.item_definitions.proofs.Paths.{offset_of-push}
use Rattle.model_tree.specs.Nodes.{items_at, items_in}
use Rattle.model_tree.proofs.Counts.{depth-append, depth-inner}
use Rattle.model_tree.proofs.Steps.{from_on}
use Rattle.post_fix.specs.Walked.{AreBelow, wanted_from}
use Rattle.post_fix.proofs.Walking.{next_wanted, dropped, normal_next, below_front, below_behind, below_long, below_inside, run_puts, element_puts}
use Rattle.post_fix.proofs.asking.+asking.Goals as goal

pub ask_inside-ask_node-requires : goal.ask_inside-ask_node-requires
ask_inside-ask_node-requires t c =
    let nodes = c.deref-node-items.result.now in
    let index = c.loop-node.node-index in
    let rest = items_in (drop (index + 1) nodes) in
    let next = from_on nodes nodes index c.node-item.result refl (omega arith) c.node-item.is in (
      omega (
        arith,
        c.decreases,
        ap depth_of c.nodes.ensures.items,
        ap (λ nodes. depth_of (items_in nodes)) c.deref-node-items.ensures.value,
        dropped index nodes,
        ap depth_of next,
        depth-append (items_at c.node-item.result) rest,
      ),
      below_front c.args.path.now c.loop-node.offset (items_in (drop index nodes)) (items_at c.node-item.result) rest next c.loop-node.invariant.below,
    )

pub ask_inside-overflow_cast-offset : goal.ask_inside-overflow_cast-offset
ask_inside-overflow_cast-offset t c =
    let nodes = c.deref-node-items.result.now in
    let index = c.loop-node.node-index in
    let next = from_on nodes nodes index c.node-item.result refl (omega arith) c.node-item.is in
    let below = below_front c.args.path.now c.loop-node.offset (items_in (drop index nodes)) (items_at c.node-item.result)
    (items_in (drop (index + 1) nodes)) next
    c.loop-node.invariant.below in
    omega (arith, below_long c.args.path.now c.loop-node.offset (items_at c.node-item.result) below, c.len.ensures)

pub ask_inside-overflow_add-offset : goal.ask_inside-overflow_add-offset
ask_inside-overflow_add-offset t c =
    let nodes = c.deref-node-items.result.now in
    let index = c.loop-node.node-index in
    let next = from_on nodes nodes index c.node-item.result refl (omega arith) c.node-item.is in
    let below = below_front c.args.path.now c.loop-node.offset (items_in (drop index nodes)) (items_at c.node-item.result)
    (items_in (drop (index + 1) nodes)) next
    c.loop-node.invariant.below in
    omega (arith, below_long c.args.path.now c.loop-node.offset (items_at c.node-item.result) below, c.len.ensures)

pub ask_inside-loop-node-preserved : goal.ask_inside-loop-node-preserved
ask_inside-loop-node-preserved t c =
    let nodes = c.deref-node-items.result.now in
    let index = c.loop-node.node-index in
    let rest = items_in (drop (index + 1) nodes) in
    let next = from_on nodes nodes index c.node-item.result refl (omega arith) c.node-item.is in
    let offset = ap (λ n. c.loop-node.offset + n) c.len.ensures in
    let normal = normal_next nodes index c.node-item.result (omega arith) c.node-item.is c.loop-node.invariant.normal in
    record {
      below = below_behind c.args.path.now c.loop-node.offset (c.loop-node.offset + c.len.result) (items_in (drop index nodes))
          (items_at c.node-item.result) rest next offset
          c.loop-node.invariant.below;
      normal = normal.1;
      going = ap (λ left. c.ask_node.new.out.items ++ wanted_from c.args.fixer.now c.args.path.now (c.loop-node.offset + c.len.result) left
          (items_of rest)) c.head_of-left.ensures
          ∙ next_wanted c.args.fixer.now c.args.path.now c.loop-node.offset (c.loop-node.offset + c.len.result)
          (option_copied c.loop-node.left) c.node-item.result
          (items_in (drop index nodes)) rest c.loop-node.out.items c.ask_node.new.out.items _ next normal.0 offset
          c.in_ok-ask_node.ensures c.loop-node.invariant.going;
    }

pub ask_node-ask_element-requires-clause-few : goal.ask_node-ask_element-requires-clause-few
ask_node-ask_element-requires-clause-few t c =
    let inside = below_inside c.args.path.now c.args.offset c.args.node.now c.in-Element.head c.in-Element.children c.in-Element.is c.requires in
    omega (arith, below_long (c.args.path.now ++ c.args.offset ∷ []) 0 c.in-Element.children inside)

pub ask_node-ask_element-requires-clause-behind : goal.ask_node-ask_element-requires-clause-behind
ask_node-ask_element-requires-clause-behind t c =
    let few = below_long c.args.path.now c.args.offset (items_at c.args.node.now) c.requires in
    omega (
      arith,
      few,
      ap (λ node. length (items_at node)) c.in-Element.is,
      ap offset_of c.push.ensures,
      ap (λ path. offset_of (path ++ c.args.offset ∷ [])) c.copy-here.ensures,
      offset_of-push c.args.path.now c.args.offset,
    )

pub ask_node-ask_inside-requires : goal.ask_node-ask_inside-requires
ask_node-ask_inside-requires t c = (
  omega (arith, c.decreases, ap (λ node. depth_of (items_at node)) c.in-Element.is, depth-inner c.in-Element.children),
  subst (λ path. AreBelow path 0 c.in-Element.children) (sym (c.push.ensures ∙ ap (λ path. path ++ c.args.offset ∷ []) c.copy-here.ensures))
      (below_inside c.args.path.now c.args.offset c.args.node.now c.in-Element.head c.in-Element.children c.in-Element.is c.requires),
)

pub ask_node-returns-in-Run : goal.ask_node-returns-in-Run
ask_node-returns-in-Run t c =
    run_puts c.args.fixer.now c.args.path.now c.args.offset (option_copied c.args.left) c.args.node.now c.in-Run.field-0 c.args.out.now.items c.in-Run.is

pub ask_node-returns-in_ok-ask_element-in-Element : goal.ask_node-returns-in_ok-ask_element-in-Element
ask_node-returns-in_ok-ask_element-in-Element t c =
    subst (λ wanted. OnOk c.ask_inside.result (c.ask_inside.new.out.items ≡ wanted))
    (element_puts c.args.fixer.now c.args.path.now c.push.new.self c.args.offset
    (option_copied c.args.left) c.args.node.now c.in-Element.head c.in-Element.children c.args.out.now.items
    c.ask_element.new.out.items c.in-Element.is
    (c.push.ensures ∙ ap (λ path. path ++ c.args.offset ∷ []) c.copy-here.ensures) c.in_ok-ask_element-in-Element.ensures)
    c.ask_inside.ensures
