use Rattle.std.proofs.Common.{◌+◌, ◌∙◌, drop, refl, ap, arith, string_bytes, option_copied}
use Rattle.item_definitions.specs.Item.{depth_of, count_of}
use Rattle.model_tree.specs.Nodes.{items_at, items_in}
use Rattle.model_tree.proofs.Counts.{depth-append, depth-inner, count-inner, count-characters}
use Rattle.item_definitions.proofs.Sizes.{length-count}
use Rattle.model_tree.proofs.Steps.{from_on}
use Rattle.print_text.specs.Ends.{places_of}
use Rattle.print_text.proofs.Runs.{dropped, put_node, few_items, within_all}
use Rattle.print_text.proofs.model.+items.Goals as goal

pub push_items-push_node-requires : goal.push_items-push_node-requires
push_items-push_node-requires t c =
    let nodes = c.deref-node-items.result.now in
    let index = c.loop-node.node-index in
    let node = c.node-item.result in
    let rest = items_in (drop (index + 1) nodes) in
    let next = from_on nodes nodes index node refl (omega arith) c.node-item.is in (
      omega (
        arith,
        c.decreases,
        ap depth_of c.nodes.ensures.items,
        ap (λ nodes. depth_of (items_in nodes)) c.deref-node-items.ensures.value,
        dropped index nodes,
        ap depth_of next,
        depth-append (items_at node) rest,
      ),
      (
        omega (arith, c.loop-node.invariant.offset, length-count c.args.items.now, c.requires.few),
        few_items nodes index node rest c.args.items.now next (ap items_in c.deref-node-items.ensures.value ∙ c.nodes.ensures.items) c.requires.few,
      ),
    )

pub push_items-overflow_add-offset : goal.push_items-overflow_add-offset
push_items-overflow_add-offset t c =
    let nodes = c.deref-node-items.result.now in
    let index = c.loop-node.node-index in
    let node = c.node-item.result in
    let rest = items_in (drop (index + 1) nodes) in
    let next = from_on nodes nodes index node refl (omega arith) c.node-item.is in
    omega (
      arith,
      within_all (items_in (drop index nodes)) c.args.items.now c.loop-node.offset node rest next c.loop-node.invariant.offset,
      length-count c.args.items.now,
      c.requires.few,
      c.len.ensures,
    )

pub push_items-loop-node-preserved : goal.push_items-loop-node-preserved
push_items-loop-node-preserved t c =
    let nodes = c.deref-node-items.result.now in
    let index = c.loop-node.node-index in
    let node = c.node-item.result in
    let rest = items_in (drop (index + 1) nodes) in
    let next = from_on nodes nodes index node refl (omega arith) c.node-item.is in
    record {
      offset = omega (
        arith,
        within_all (items_in (drop index nodes)) c.args.items.now c.loop-node.offset node rest next c.loop-node.invariant.offset,
        c.len.ensures,
      );
      text = put_node (places_of c.args.marks) c.loop-node.offset (c.loop-node.offset + c.len.result) (option_copied c.loop-node.before)
          (option_copied c.run_behind-before.result) node (string_bytes c.loop-node.out) (string_bytes c.push_node.new.out)
          (items_in (drop index nodes)) rest c.in_ok-push_node.ensures next (ap (λ count. c.loop-node.offset + count) c.len.ensures) c.run_behind-before.ensures
          ∙ c.loop-node.invariant.text;
    }

pub push_node-push_run-requires-clause-few : goal.push_node-push_run-requires-clause-few
push_node-push_run-requires-clause-few t c = omega (
  arith,
  c.requires.few,
  ap (λ node. count_of (items_at node)) c.in-Run.is,
  count-characters c.in-Run.text.attributes c.in-Run.text.scalars,
)

pub push_node-push_element-requires : goal.push_node-push_element-requires
push_node-push_element-requires t c = (
  omega (arith, c.decreases, ap (λ node. depth_of (items_at node)) c.in-Element.is, depth-inner c.in-Element.children),
  omega (arith, c.requires.few, ap (λ node. count_of (items_at node)) c.in-Element.is, count-inner c.in-Element.children),
)
