use Rattle.std.proofs.Common.{◌++◌, ap, ◌∙◌}
use Rattle.pos_mapper.specs.Bindings.{Mapper}
use Rattle.pos_mapper.specs.Seeking.{shown_at}
use Rattle.pos_mapper.specs.Reading.{slots_in}
use Rattle.pos_mapper.proofs.SeenInRow.{all-shown}
use Rattle.pos_mapper.proofs.mapper.Mapper.to_view.Goals as goal

pub returns : goal.returns
returns c =
    all-shown c.args.self.now c.args.view.now.nodes c.args.position.now c.as_view_place.result.path c.as_view_place.result.offset c.push_shown.new.place.items
    c.as_view_place.ensures
    (c.in_ok-push_shown.ensures
    ∙ (λ i. c.new-place.ensures.items i
    ++ shown_at (slots_in (ap (λ (m : Mapper). m.bindings) c.self.view_is i)) (c.caret_at.ensures i) (c.caret_place.ensures i) 0
    ((c.as_slice-nodes.ensures ∙ c.nodes.ensures) i) (c.as_slice-numbers.ensures.numbers i)))
