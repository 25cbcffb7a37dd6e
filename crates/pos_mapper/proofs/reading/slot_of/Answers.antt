use Rattle.std.proofs.Common.{ap, sym, ◌∙◌, option_and_then}
use Rattle.pos_mapper.specs.Bindings.{Binding}
use Rattle.pos_mapper.specs.Reading.{slots_in}
use Rattle.pos_mapper.proofs.reading.slot_of.Goals as goal

pub returns-in-Some-of_number : goal.returns-in-Some-of_number
returns-in-Some-of_number c =
    c.slot.ensures ∙ ap (option_and_then (λ (b : Binding). b.slot)) c.in-Some-of_number.ensures ∙ ap (slots_in c.args.table.now) c.value.ensures
    ∙ sym (ap (option_and_then (slots_in c.args.table.now)) c.in-Some.is)
