use Rattle.std.proofs.Common.{◌++◌, [], ◌∷◌, ap, ◌∙◌}
use Rattle.pos_mapper.specs.Bindings.{Binding}
use Rattle.pos_mapper.proofs.Keyed.{bound_more}
use Rattle.pos_mapper.proofs.table.Table.add.Goals as goal

pub returns-clause-ok : goal.returns-clause-ok
returns-clause-ok c =
    bound_more c.place-key.new.bindings.slots c.put.new.table.entries c.put-2.new.table.entries c.make_room.ensures.same c.reserve.ensures.entries
    c.reserve-2.ensures.entries (c.value-id.ensures.number ∙ ap (λ (b : Binding). b.id) c.binding.view_is) (c.value-number.ensures
    ∙ ap (λ (b : Binding). b.number) c.binding.view_is)
    c.put.ensures c.put-2.ensures c.self.invariant c.place-key.ensures.vacant c.place-key.ensures.placed c.place-key.ensures.others
    ∙ ap (λ list. list ++ c.args.binding ∷ []) c.self.view_is
