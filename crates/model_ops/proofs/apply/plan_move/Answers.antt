use Rattle.std.proofs.Common.{sym, subst}
use Rattle.operation_definitions.specs.Operation.{move}
use Rattle.operation_definitions.specs.After.{effect}
use Rattle.model_ops.specs.Meant.{place_of}
use Rattle.model_ops.specs.Effects.{Plans}
use Rattle.model_ops.proofs.apply.plan_move.Goals as goal

pub returns-in-Tree-Tree : goal.returns-in-Tree-Tree
returns-in-Tree-Tree c =
    subst (λ wanted. Plans wanted c.args.cells.now c.move_in_tree.result)
    (λ i. effect c.args.items.now c.args.cells.now (move (place_of (sym c.in-Tree-Tree.is-0 i)) c.args.count (place_of (sym c.in-Tree-Tree.is-1 i))))
    (c.move_in_tree.ensures c.args.cells.now)
