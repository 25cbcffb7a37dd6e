use Rattle.std.proofs.Common.{◌≡◌, ◌-◌, ◌++◌, ◌∷◌, [], take, length, refl, sym, ap, ◌∙◌, subst, arith}
use Rattle.item_definitions.specs.Item.{depth_of, items_of}
use Rattle.model_tree.specs.Nodes.{items_at, items_in}
use Rattle.model_tree.proofs.Counts.{depth-inner}
use Rattle.std.specs.Option.{option_or}
use Rattle.std.proofs.lemmas.List.{take_all}
use Rattle.post_fix.specs.Nearest.{last_ahead}
use Rattle.post_fix.specs.Walked.{AreBelow}
use Rattle.post_fix.proofs.Walking.{below_long, below_inside}
use Rattle.post_fix.proofs.Seeking.{last_next, last_in_run, last_in_element, back_one, offset_back, depth_back, below_back}
use Rattle.post_fix.proofs.walk.Walk.+backwards.Goals as goal

pub last_ahead-overflow_cast-offset : goal.last_ahead-overflow_cast-offset
last_ahead-overflow_cast-offset t c = omega (arith, c.len-offset.ensures, below_long c.args.path.now 0 c.args.items.now c.requires)

pub last_ahead-loop-left-init : goal.last_ahead-loop-left-init
last_ahead-loop-left-init t c =
    let nodes = c.nodes-nodes.result.now.items in
    let long : c.len-left.result ≡ length nodes = c.len-left.ensures ∙ c.nodes-nodes.result.now.ok.0 in
    let all : items_in (take c.len-left.result nodes) ≡ c.args.items.now = ap items_in (take_all c.len-left.result nodes (omega (arith, long)))
    ∙ c.nodes-nodes.ensures.items in
    record {
      back = refl;
      within = omega (arith, long);
      offset = omega (arith, c.len-offset.ensures, below_long c.args.path.now 0 c.args.items.now c.requires, ap length all);
      found = ap (λ items. last_ahead c.args.self.now.schema.now c.args.names.now.items c.args.path.now c.args.upto 0 (items_of items)) all;
    }

pub last_ahead-last_in_node-requires : goal.last_ahead-last_in_node-requires
last_ahead-last_in_node-requires t c =
    let nodes = c.nodes-nodes.result.now.items in
    let within = c.loop-left.invariant.within in (
      omega (
        arith,
        c.decreases,
        depth_back nodes c.loop-left.left c.index-node.result.now c.args.items.now c.loop-left-test.true within
            c.index-node.ensures c.nodes-nodes.ensures.items,
      ),
      below_back c.args.path.now nodes c.loop-left.left c.loop-left.offset c.len.result c.index-node.result.now c.args.items.now c.loop-left-test.true within
          c.index-node.ensures c.loop-left.invariant.offset c.len.ensures c.nodes-nodes.ensures.items c.requires,
    )

pub last_ahead-returns-in-Some-clause-found : goal.last_ahead-returns-in-Some-clause-found
last_ahead-returns-in-Some-clause-found t c =
    let nodes = c.nodes-nodes.result.now.items in
    let node = c.index-node.result.now in
    let front = items_in (take (c.loop-left.left - 1) nodes) in
    let back = back_one nodes c.loop-left.left node c.loop-left-test.true c.loop-left.invariant.within c.index-node.ensures in
    let offset = offset_back c.loop-left.offset c.len.result front (items_at node) (items_in (take c.loop-left.left nodes)) back
    c.loop-left.invariant.offset c.len.ensures in
    ap (λ o. option_or o (last_ahead c.args.self.now.schema.now c.args.names.now.items c.args.path.now c.args.upto 0 (items_of front))) (sym c.in-Some.is)
    ∙ last_next c.args.self.now.schema.now c.args.names.now.items c.args.path.now c.args.upto (c.loop-left.offset - c.len.result)
    (items_in (take c.loop-left.left nodes)) front (items_at node) c.in_ok-found.field-0 _ back offset
    (c.in_ok-found.ensures.found ∙ ap (λ names. last_ahead c.args.self.now.schema.now names c.args.path.now c.args.upto (c.loop-left.offset - c.len.result)
    (items_of (items_at node))) c.loop-left.invariant.back)
    c.loop-left.invariant.found

pub last_ahead-loop-left-preserved : goal.last_ahead-loop-left-preserved
last_ahead-loop-left-preserved t c =
    let nodes = c.nodes-nodes.result.now.items in
    let node = c.index-node.result.now in
    let front = items_in (take (c.loop-left.left - 1) nodes) in
    let back = back_one nodes c.loop-left.left node c.loop-left-test.true c.loop-left.invariant.within c.index-node.ensures in
    let offset = offset_back c.loop-left.offset c.len.result front (items_at node) (items_in (take c.loop-left.left nodes)) back
    c.loop-left.invariant.offset c.len.ensures in
    record {
      back = c.in_ok-found.ensures.back ∙ c.loop-left.invariant.back;
      within = (let within = c.loop-left.invariant.within in omega (arith, within));
      offset = offset;
      found = ap (λ o. option_or o (last_ahead c.args.self.now.schema.now c.args.names.now.items c.args.path.now c.args.upto 0 (items_of front)))
          (sym c.in-None.is)
          ∙ last_next c.args.self.now.schema.now c.args.names.now.items c.args.path.now c.args.upto (c.loop-left.offset - c.len.result)
          (items_in (take c.loop-left.left nodes)) front (items_at node) c.in_ok-found.field-0 _ back offset
          (c.in_ok-found.ensures.found
          ∙ ap (λ names. last_ahead c.args.self.now.schema.now names c.args.path.now c.args.upto (c.loop-left.offset - c.len.result)
          (items_of (items_at node))) c.loop-left.invariant.back)
          c.loop-left.invariant.found;
    }

pub last_in_node-overflow_cast-len : goal.last_in_node-overflow_cast-len
last_in_node-overflow_cast-len t c =
    let inside = below_inside c.args.path.now c.args.offset c.args.node.now c.in-Element.head c.in-Element.children c.in-Element.is c.requires in
    omega (arith, c.len.ensures, below_long (c.args.path.now ++ c.args.offset ∷ []) 0 c.in-Element.children inside)

pub last_in_node-last_here-requires : goal.last_in_node-last_here-requires
last_in_node-last_here-requires t c = (
  omega (arith, c.decreases, ap (λ node. depth_of (items_at node)) c.in-Element.is, depth-inner c.in-Element.children),
  subst (λ path. AreBelow path 0 c.in-Element.children) (sym (c.push.ensures ∙ ap (λ path. path ++ c.args.offset ∷ []) c.copy-here.ensures))
      (below_inside c.args.path.now c.args.offset c.args.node.now c.in-Element.head c.in-Element.children c.in-Element.is c.requires),
)

pub last_in_node-returns-in-Run-clause-found : goal.last_in_node-returns-in-Run-clause-found
last_in_node-returns-in-Run-clause-found t c =
    last_in_run c.args.self.now.schema.now c.args.names.now.items c.args.path.now c.args.upto c.args.offset _ c.args.node.now c.in-Run.is

pub last_in_node-returns-in_ok-found-in-Element-clause-found : goal.last_in_node-returns-in_ok-found-in-Element-clause-found
last_in_node-returns-in_ok-found-in-Element-clause-found t c =
    let inside = below_inside c.args.path.now c.args.offset c.args.node.now c.in-Element.head c.in-Element.children c.in-Element.is c.requires in
    last_in_element c.args.self.now.schema.now c.args.names.now.items c.args.path.now c.args.upto c.args.offset c.len.result c.args.node.now
    c.in-Element.head c.in-Element.children c.enter.new.names.items c.push.new.self _ c.in-Element.is (omega arith)
    (omega (arith, c.len.ensures, below_long (c.args.path.now ++ c.args.offset ∷ []) 0 c.in-Element.children inside))
    (c.in_ok-enter-in-Element.ensures ∙ ap (λ name. c.args.names.now.items ++ name ∷ []) c.name.ensures)
    (c.push.ensures ∙ ap (λ path. path ++ c.args.offset ∷ []) c.copy-here.ensures)
    c.in_ok-found-in-Element.ensures.found
