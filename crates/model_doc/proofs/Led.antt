-- A record of an operation that was just made leads from before it.
use Rattle.std.proofs.Common.{◌≡◌, ◌≤◌, Ok, refl, sym, ap, ◌∙◌, subst, arith}
use Rattle.operation_definitions.specs.Operation.{Operation}
use Rattle.operation_definitions.specs.Reversed.{AreOrdered, HasPlaces}
use Rattle.document_definitions.specs.Document.{State, applied}
use Rattle.document_definitions.specs.Sound.{IsSound}
use Rattle.model_doc.specs.Held.{Held}
use Rattle.model_doc.specs.Records.{Done, done_on, LedTo, Leads}

pub led_to : (before made : State) (operation : Operation) (done : Done) (held : Held) → IsSound before → AreOrdered before.document.items
    → HasPlaces operation → 1 ≤ held.mark → applied operation before ≡ Ok made → held.state ≡ made
    → done ≡ done_on before operation made held.mark → Leads before done held
led_to before made operation done held sound ordered places some e here is = record {
  sound = sound;
  ordered = ordered;
  places = subst HasPlaces (sym named) places;
  some = omega (arith, number, some);
  last = number;
  led = subst (LedTo before done held.state) (sym (ap (λ o. applied o before) named ∙ e)) (subst (λ s. LedTo before done s (Ok made)) (sym here) there);
}
  where
    named : done.operation ≡ operation
    named = ap (λ d. d.operation) is

    number : done.number ≡ held.mark
    number = ap (λ d. d.number) is

    there : LedTo before done made (Ok made)
    there = (is ∙ sym (λ i. done_on before (named i) made (number i)), (refl, refl, refl, (λ n. refl, omega arith)))
