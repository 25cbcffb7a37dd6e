use Rattle.std.proofs.Common.{◌+◌, Fits, w32, sym, subst}
use Rattle.model_pos.proofs.RunEnds.{run-fits}
use Rattle.model_pos.proofs.runs.with_run.Goals as goal

pub overflow_add-first : goal.overflow_add-first
overflow_add-first c =
    subst (λ n. Fits w32 (c.split-first.result.1 + n)) (sym c.saturating_sub.ensures)
    (run-fits c.split-offset.result.0.now c.args.from.now c.args.position.now c.in-Some.path.now c.args.to.now c.split-first.result.0.now
    c.in-Some.number c.split-offset.result.1 c.split-first.result.1
    c.split-offset.ensures.parent c.split-offset.ensures.offset c.split-first.ensures.parent c.split-first.ensures.offset c.in-Some.ensures.parted c.requires)
