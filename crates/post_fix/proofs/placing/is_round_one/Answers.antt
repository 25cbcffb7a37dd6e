use Rattle.std.proofs.Common.{◌+◌, ◌&&◌, nat_eq, sym, ap, ◌∙◌}
use Rattle.post_fix.proofs.Ends.{next_is}
use Rattle.post_fix.proofs.placing.is_round_one.Goals as goal

pub returns-then-eq : goal.returns-then-eq
returns-then-eq c =
    ap (λ b. b && nat_eq c.split-next.result.1 (c.split-offset.result.1 + 1)) (sym c.if-eq.true ∙ c.eq.ensures)
    ∙ next_is c.args.range.now.start c.args.range.now.end c.split-offset.result.0.now c.split-next.result.0.now c.split-offset.result.1 c.split-next.result.1
    (sym c.start.ensures.start ∙ c.split-offset.ensures.whole) (sym c.end.ensures ∙ c.split-next.ensures.whole)

pub returns-else-eq : goal.returns-else-eq
returns-else-eq c =
    c.if-eq.false ∙ ap (λ b. b && nat_eq c.split-next.result.1 (c.split-offset.result.1 + 1)) (sym c.if-eq.false ∙ c.eq.ensures)
    ∙ next_is c.args.range.now.start c.args.range.now.end c.split-offset.result.0.now c.split-next.result.0.now c.split-offset.result.1 c.split-next.result.1
    (sym c.start.ensures.start ∙ c.split-offset.ensures.whole) (sym c.end.ensures ∙ c.split-next.ensures.whole)
