use Rattle.std.proofs.Common.{arith}
use Rattle.model_doc.proofs.NextIds.{children_flat}
use Rattle.model_doc.proofs.carrying.+raised.Goals as goal

pub raised_by-raised-requires : goal.raised_by-raised-requires
raised_by-raised-requires t c = (omega (arith, c.decreases, children_flat c.args.node.now c.in-Element.head c.in-Element.children c.in-Element.is), tt)
