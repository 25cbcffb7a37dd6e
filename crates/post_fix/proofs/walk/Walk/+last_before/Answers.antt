use Rattle.std.proofs.Common.{◌++◌, ◌∷◌, [], arith, ap, ◌∙◌}
use Rattle.post_fix.specs.Nearest.{parts_in}
use Rattle.post_fix.proofs.Seeking.{stands_inside, below_element}
use Rattle.post_fix.proofs.walk.Walk.+last_before.Goals as goal

pub last_before-requires : goal.last_before-requires
last_before-requires t c = (
  (let long = c.in-Some.ensures.cases.1 in omega (arith, c.decreases, long)),
  (
    below_element c.args.path.now _ c.in-Some.index.now c.args.items.now _ (parts_in c.in-Some-element_at.element) c.nodes.ensures.items
        (c.push.ensures ∙ ap (λ path. path ++ c.in-Some.index.now ∷ []) c.copy-here.ensures) c.in-Some-element_at.ensures c.requires.below,
    stands_inside c.args.start.now c.in-Some.rest.now c.in-Some.index.now c.args.items.now _ (parts_in c.in-Some-element_at.element)
        c.in-Some.ensures.cases.0 c.if-is_empty.ensures c.nodes.ensures.items c.in-Some-element_at.ensures c.requires.stands,
  ),
)
