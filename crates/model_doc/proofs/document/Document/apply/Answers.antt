use Rattle.std.proofs.Common.{arith, ◌≡◌, Ok, sym, ap, ◌∙◌, subst}
use Rattle.operation_definitions.specs.Reversed.{AreOrdered}
use Rattle.document_definitions.specs.Document.{State, applied}
use Rattle.document_definitions.specs.Sound.{IsSound}
use Rattle.model_ops.specs.Meant.{operation_of}
use Rattle.model_doc.specs.Held.{Held, Moment}
use Rattle.model_doc.specs.Records.{done_on}
use Rattle.model_doc.proofs.Led.{led_to}
use Rattle.model_doc.proofs.document.Document.apply.Goals as goal

pub returns-in-Ok-clause-leads : goal.returns-in-Ok-clause-leads
returns-in-Ok-clause-leads c =
    let operation = operation_of c.args.operation in
    let before = ap (λ (held : Held). held.state) c.self.view_is in
    let made = c.in-Ok.made in
    let put = c.put.ensures.body in
    led_to c.args.self.now.state made.state operation c.put.result
    (record { state = c.put.new.self.state; mark = c.put.new.self.mark; kept = c.self.inside.kept })
    (subst IsSound before c.in-Ok.ensures.sound)
    (subst (λ (s : State). AreOrdered s.document.items) before c.in-Ok.ensures.ordered)
    c.in-Ok.ensures.places
    (let m = ap (λ (m : Moment). m.mark) put in let n = c.in-Ok.ensures.mark in omega (arith, m, n))
    (subst (λ (s : State). applied operation s ≡ Ok made.state) before c.in-Ok.ensures.ok)
    (ap (λ (m : Moment). m.state) put)
    (c.put.ensures.record ∙ (λ i. done_on (before i) operation made.state (sym put i).mark))
