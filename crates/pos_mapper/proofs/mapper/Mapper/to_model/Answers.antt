use Rattle.std.proofs.Common.{◌++◌, [], ◌∷◌, ap, sym, ◌∙◌, subst, Some}
use Rattle.pos_mapper.specs.Bindings.{Mapper}
use Rattle.pos_mapper.specs.Mapped.{Means}
use Rattle.pos_mapper.proofs.Documents.{all-read}
use Rattle.pos_mapper.proofs.mapper.Mapper.to_model.Goals as goal

pub returns-in-Some-new-clause-ok : goal.returns-in-Some-new-clause-ok
returns-in-Some-new-clause-ok c =
    subst (λ position. Means c.args.self.now c.args.view.now.nodes (c.args.place.now.path ++ c.args.place.now.offset ∷ []) (Some position))
    (sym c.in-Some-new.ensures.position)
    (all-read c.args.self.now c.args.view.now.nodes c.args.place.now.path c.args.place.now.offset (ap (λ (m : Mapper). m.bindings) c.self.view_is) c.new.ensures
    (c.as_slice-nodes.ensures ∙ c.nodes.ensures) c.as_slice-path.ensures (sym c.in-Some.is ∙ c.read_nodes.ensures.position))

pub returns-in-None-clause-not_in_view : goal.returns-in-None-clause-not_in_view
returns-in-None-clause-not_in_view c =
    all-read c.args.self.now c.args.view.now.nodes c.args.place.now.path c.args.place.now.offset (ap (λ (m : Mapper). m.bindings) c.self.view_is) c.new.ensures
    (c.as_slice-nodes.ensures ∙ c.nodes.ensures) c.as_slice-path.ensures (sym c.in-None.is ∙ c.read_nodes.ensures.position)
