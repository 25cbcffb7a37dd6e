use Rattle.std.proofs.Common.{◌++◌, ◌∷◌, [], arith, ap, ◌∙◌}
use Rattle.post_fix.specs.Nearest.{parts_in}
use Rattle.post_fix.proofs.Walking.{below_long}
use Rattle.post_fix.proofs.Seeking.{stands_inside, below_element, next_fits}
use Rattle.post_fix.proofs.walk.Walk.+first_from.Goals as goal

pub first_from-requires : goal.first_from-requires
first_from-requires t c = (
  (let long = c.in-Some.ensures.cases.1 in omega (arith, c.decreases, long)),
  (
    below_element c.args.path.now _ c.in-Some.index.now c.args.items.now _ (parts_in c.in-Some-element_at.element) c.nodes.ensures.items
        (c.push.ensures ∙ ap (λ path. path ++ c.in-Some.index.now ∷ []) c.copy-here.ensures) c.in-Some-element_at.ensures c.requires.below,
    stands_inside c.args.start.now c.in-Some.rest.now c.in-Some.index.now c.args.items.now _ (parts_in c.in-Some-element_at.element)
        c.in-Some.ensures.cases.0 c.if-is_empty.ensures c.nodes.ensures.items c.in-Some-element_at.ensures c.requires.stands,
  ),
)

pub overflow_add-index : goal.overflow_add-index
overflow_add-index t c =
    omega (
      arith,
      next_fits c.args.path.now c.in-Some.index.now c.args.items.now _ (parts_in c.in-Some-element_at.element) c.nodes.ensures.items
          c.in-Some-element_at.ensures (below_long c.args.path.now 0 c.args.items.now c.requires.below),
    )
