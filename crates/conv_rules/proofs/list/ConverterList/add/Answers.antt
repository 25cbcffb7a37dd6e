use Rattle.std.proofs.Common.{ap, ◌∙◌}
use Rattle.std.specs.List.{insert}
use Rattle.conv_rules.specs.Listed.{converter_of, listed, place_behind}
use Rattle.conv_rules.proofs.Adding.{added_there}
use Rattle.conv_rules.proofs.list.ConverterList.add.Goals as goal

pub returns-clause-ok : goal.returns-clause-ok
returns-clause-ok g c =
    ap (λ entries. listed (λ b. (goal.Converter-dyn g (b.vtable, b.value)).gives b.value) entries) c.in_ok-insert.ensures.items
    ∙ ap (λ place. listed (λ b. (goal.Converter-dyn g (b.vtable, b.value)).gives b.value)
    (insert c.args.self.now.entries.items place (record { priority = c.args.priority; entry = c.args.entry })))
    (c.place_behind-place.ensures.place
    ∙ ap (λ entries. place_behind c.args.priority (listed (λ b. (goal.Converter-dyn g (b.vtable, b.value)).gives b.value) entries)) c.as_slice.ensures.value)
    ∙ added_there (λ entry. (entry.priority, converter_of (λ b. (goal.Converter-dyn g (b.vtable, b.value)).gives b.value) entry.entry))
    (record { priority = c.args.priority; entry = c.args.entry }) c.args.self.now.entries.items
