use Rattle.std.proofs.Common.{◌==◌, sym, ap, ◌∙◌, option_and_then}
use Rattle.std.specs.Option.{option_copied}
use Rattle.std.specs.List.{find}
use Rattle.pos_mapper.specs.Bindings.{Binding}
use Rattle.pos_mapper.specs.Keys.{binding_at}
use Rattle.pos_mapper.proofs.Keyed.{found_id}
use Rattle.pos_mapper.proofs.table.Table.of_id.Goals as goal

pub returns-in-Some : goal.returns-in-Some
returns-in-Some c =
    c.get-in-Some.ensures ∙ ap (option_and_then (binding_at c.self.inside.bindings.slots)) (sym (ap option_copied c.in-Some.is) ∙ c.get.ensures.value)
    ∙ found_id c.self.inside.bindings.slots c.self.inside.by_id.entries c.self.inside.by_number.entries c.args.id c.self.invariant
    ∙ ap (find (λ (binding : Binding). binding.id == c.args.id)) c.self.view_is

pub returns-in-None : goal.returns-in-None
returns-in-None c =
    ap (option_and_then (binding_at c.self.inside.bindings.slots)) (sym (ap option_copied c.in-None.is) ∙ c.get.ensures.value)
    ∙ found_id c.self.inside.bindings.slots c.self.inside.by_id.entries c.self.inside.by_number.entries c.args.id c.self.invariant
    ∙ ap (find (λ (binding : Binding). binding.id == c.args.id)) c.self.view_is
