use Rattle.std.proofs.Common.{◌≤◌, [], length, set, sym, ap, ◌∙◌, subst}
use Rattle.document_definitions.specs.Document.{State}
use Rattle.model_doc.specs.Held.{returned}
use Rattle.model_doc.specs.Records.{Done, IsAgain}
use Rattle.model_doc.proofs.GoingBack.{within, not_refused, counted, is_again, again_sound, again_long}
use Rattle.model_doc.proofs.body.Body.before.Goals as goal

pub taken_back-requires-clause-split : goal.taken_back-requires-clause-split
taken_back-requires-clause-split c = (within c.requires.0 c.args.done.now (returned c.args.self.now) c.requires.1).0

pub taken_back-requires-clause-limits : goal.taken_back-requires-clause-limits
taken_back-requires-clause-limits c = (within c.requires.0 c.args.done.now (returned c.args.self.now) c.requires.1).1

pub taken_back-requires-clause-fine : goal.taken_back-requires-clause-fine
taken_back-requires-clause-fine c = not_refused c.requires.0 c.args.done.now (returned c.args.self.now) c.requires.1

pub restored-requires-clause-sound : goal.restored-requires-clause-sound
restored-requires-clause-sound c =
    let emptied = c.in-Ok-empty.ensures.ok ∙ ap (λ (done : Done). set c.in-Ok.cells done.cell []) c.done.view_is in
    again_sound c.args.done.now (returned c.args.self.now) c.in-Ok.tree c.in-Ok.cells c.empty.new.self c.in-Ok.ensures emptied c.requires

pub restored-requires-clause-some : goal.restored-requires-clause-some
restored-requires-clause-some c = counted c.args.done.now (returned c.args.self.now) c.requires

pub returns-clause-again : goal.returns-clause-again
returns-clause-again c = λ before leads.
    (let emptied = c.in-Ok-empty.ensures.ok ∙ ap (λ (done : Done). set c.in-Ok.cells done.cell []) c.done.view_is in
    subst (IsAgain before) (sym c.in-Ok-restored.ensures.state)
    (is_again c.args.done.now (returned c.args.self.now) c.in-Ok.tree c.in-Ok.cells c.empty.new.self c.in-Ok.ensures emptied before leads))

pub returns-clause-cells : goal.returns-clause-cells
returns-clause-cells c =
    let emptied = c.in-Ok-empty.ensures.ok ∙ ap (λ (done : Done). set c.in-Ok.cells done.cell []) c.done.view_is in
    subst (λ (state : State). length c.args.self.now.state.cells ≤ length state.cells) (sym c.in-Ok-restored.ensures.state)
    (again_long c.args.done.now (returned c.args.self.now) c.in-Ok.tree c.in-Ok.cells c.empty.new.self c.in-Ok.ensures emptied c.requires)
