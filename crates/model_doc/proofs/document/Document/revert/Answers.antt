use Rattle.std.proofs.Common.{◌≤◌, length, sym, ap, ◌∙◌, subst}
use Rattle.model_doc.specs.Held.{Held, present, returned}
use Rattle.model_doc.specs.Records.{Leads}
use Rattle.model_doc.proofs.GoingBack.{at_moment}
use Rattle.model_doc.proofs.document.Document.revert.Goals as goal

pub before-requires : goal.before-requires
before-requires c = (
  c.requires.0,
  subst (λ (held : Held). Leads c.requires.0 c.args.done.now (returned (present held))) (sym c.self.view_is)
      (at_moment c.requires.0 c.args.done.now c.args.self.now c.requires.1),
)

pub returns-clause-again : goal.returns-clause-again
returns-clause-again c = λ before leads. c.in-Ok.ensures.again before
    (subst (λ (held : Held). Leads before c.args.done.now (returned (present held))) (sym c.self.view_is)
    (at_moment before c.args.done.now c.args.self.now leads))

pub returns-clause-mark : goal.returns-clause-mark
returns-clause-mark c = c.in-Ok.ensures.mark ∙ ap (λ (held : Held). held.mark) c.self.view_is

pub returns-clause-cells : goal.returns-clause-cells
returns-clause-cells c = subst (λ (held : Held). length held.state.cells ≤ length c.in-Ok.body.state.cells) c.self.view_is c.in-Ok.ensures.cells
