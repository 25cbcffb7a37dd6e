use Rattle.std.proofs.Common.{arith}
use Rattle.post_fix.specs.Nearest.{parts_in}
use Rattle.post_fix.proofs.Seeking.{stands_inside}
use Rattle.post_fix.proofs.walk.Walk.+holds_text.Goals as goal

pub holds_text-requires : goal.holds_text-requires
holds_text-requires t c = (
  (let long = c.in-Some.ensures.cases.1 in omega (arith, c.decreases, long)),
  stands_inside c.args.position.now c.in-Some.rest.now c.in-Some.index.now c.args.items.now _ (parts_in c.in-Some-element_at.element)
      c.in-Some.ensures.cases.0 c.if-is_empty.ensures c.nodes.ensures.items c.in-Some-element_at.ensures c.requires,
)
