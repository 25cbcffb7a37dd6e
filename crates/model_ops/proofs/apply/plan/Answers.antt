use Rattle.std.proofs.Common.{sym, subst}
use Rattle.operation_definitions.specs.After.{effect}
use Rattle.model_ops.specs.Meant.{operation_of}
use Rattle.model_ops.specs.Effects.{Plans}
use Rattle.model_ops.proofs.apply.plan.Goals as goal

pub returns-in-Insert : goal.returns-in-Insert
returns-in-Insert c =
    subst (λ wanted. Plans wanted c.args.cells.now c.insert.result)
    (λ i. effect (c.items.ensures.items i) c.args.cells.now (operation_of (sym c.in-Insert.is i))) (c.insert.ensures c.args.cells.now)

pub returns-in-Attribute : goal.returns-in-Attribute
returns-in-Attribute c =
    subst (λ wanted. Plans wanted c.args.cells.now c.attribute.result)
    (λ i. effect (c.items-in-Attribute.ensures.items i) c.args.cells.now (operation_of (sym c.in-Attribute.is i))) (c.attribute.ensures c.args.cells.now)

pub returns-in-Rename : goal.returns-in-Rename
returns-in-Rename c =
    subst (λ wanted. Plans wanted c.args.cells.now c.rename.result)
    (λ i. effect c.args.tree.now c.args.cells.now (operation_of (sym c.in-Rename.is i))) (c.rename.ensures c.args.cells.now)

pub returns-in-Marker : goal.returns-in-Marker
returns-in-Marker c =
    subst (λ wanted. Plans wanted c.args.cells.now c.nothing.result)
    (λ i. effect (c.items-in-Marker.ensures.items i) c.args.cells.now (operation_of (sym c.in-Marker.is i))) (c.nothing.ensures c.args.cells.now)
