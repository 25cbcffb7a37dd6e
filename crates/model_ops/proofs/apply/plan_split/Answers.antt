use Rattle.std.proofs.Common.{sym, subst}
use Rattle.operation_definitions.specs.Operation.{split}
use Rattle.operation_definitions.specs.After.{effect}
use Rattle.model_ops.specs.Meant.{source_of}
use Rattle.model_ops.specs.Effects.{Plans}
use Rattle.model_ops.proofs.apply.plan_split.Goals as goal

pub returns-in-Fresh : goal.returns-in-Fresh
returns-in-Fresh c =
    subst (λ wanted. Plans wanted c.args.cells.now c.split_fresh.result)
    (λ i. effect c.args.tree.now c.args.cells.now (split c.args.at.now (source_of (sym c.in-Fresh.is i)))) (c.split_fresh.ensures c.args.cells.now)
