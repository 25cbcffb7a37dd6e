use Rattle.std.proofs.Common.{ap, ◌∙◌}
use Rattle.operation_definitions.specs.Back.{back}
use Rattle.model_ops.specs.Meant.{operation_of}
use Rattle.model_doc.specs.Held.{Moment}
use Rattle.model_doc.proofs.GoingBack.{after_same}
use Rattle.model_doc.proofs.body.Body.taken_back.Goals as goal

pub reversal-requires-clause-split : goal.reversal-requires-clause-split
reversal-requires-clause-split c = c.requires.split

pub reversal-requires-clause-limits : goal.reversal-requires-clause-limits
reversal-requires-clause-limits c = c.requires.limits

pub returns-in-Ok : goal.returns-in-Ok
returns-in-Ok c =
    after_same c.in_ok-tree.tree c.args.self.now.state.document.items c.in_ok-cells.cells c.args.self.now.state.cells (operation_of c.in_ok-back.back)
    (back c.args.done.now.operation c.args.done.now.cell)
    (c.apply-answer.new.tree, c.apply-answer.new.cells)
    (c.in_ok-tree.ensures ∙ ap (λ (m : Moment). m.state.document.items) c.self.view_is)
    (c.in_ok-cells.ensures ∙ ap (λ (m : Moment). m.state.cells) c.self.view_is)
    c.in_ok-back.ensures
    c.in-Ok.ensures.ok
