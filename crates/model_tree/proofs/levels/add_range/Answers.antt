use Rattle.std.proofs.Common.{arith, ◌≡◌, ◌+◌, ◌++◌, ◌-◌, min, take, drop, sym, ap, ◌∙◌, subst}
use Rattle.model_tree.specs.Nodes.{items_at, items_in, IsNormal}
use Rattle.model_tree.proofs.Ranges.{passed_over, taken}
use Rattle.model_tree.proofs.Steps.{from_on}
use Rattle.model_tree.proofs.levels.add_range.Goals as goal
use Rattle.model_tree.proofs.levels.add_range.Goals.{then-skip-long+in_ok-add_part, else-skip-long}

pub loop-node-preserved : goal.loop-node-preserved
loop-node-preserved c =
    let front = items_in c.loop-node.made.items in
    let first = items_at c.node-item.result in
    let rest = items_in (drop (c.loop-node.node-index + 1) c.args.nodes.now.items) in
    let whole = items_in c.args.made.now.items ++ take c.args.count (drop c.args.offset (items_in c.args.nodes.now.items)) in
    let next = from_on c.deref-node-items.result.now c.args.nodes.now.items c.loop-node.node-index c.node-item.result c.deref-node-items.ensures.value
    (omega arith) c.node-item.is in
    let before : front ++ take c.loop-node.left (drop c.loop-node.skip (first ++ rest)) ≡ whole =
    ap (λ items. front ++ take c.loop-node.left (drop c.loop-node.skip items)) (sym next) ∙ c.loop-node.invariant.items in
    elim c.if-skip-long.branch [
      | then-skip-long+in_ok-add_part w ↦ record {
        items = (λ i. items_in (w.made-is i).items ++ take (w.left-is i) (drop (w.skip-is i) rest))
            ∙ taken front first rest whole (items_in w.add_part.new.made.items) c.loop-node.skip c.loop-node.left w.min-taken.result
            (omega arith) (w.min-taken.ensures ∙ ap (λ n. min c.loop-node.left (n - c.loop-node.skip)) c.len-long.ensures)
            w.in_ok-add_part.ensures.items before;
        normal = λ h. subst (λ made. IsNormal made.items) (sym w.made-is) (w.in_ok-add_part.ensures.normal (c.loop-node.invariant.normal h));
      }
      | else-skip-long w ↦ record {
        items = (λ i. items_in (w.made-is i).items ++ take (w.left-is i) (drop (w.skip-is i) rest))
            ∙ ap (λ n. front ++ take c.loop-node.left (drop (c.loop-node.skip - n) rest)) c.len-long.ensures
            ∙ passed_over front first rest whole c.loop-node.skip c.loop-node.left (omega arith) before;
        normal = λ h. subst (λ made. IsNormal made.items) (sym w.made-is) (c.loop-node.invariant.normal h);
      }
    ]
