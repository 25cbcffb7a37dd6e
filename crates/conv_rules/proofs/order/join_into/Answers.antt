use Rattle.std.proofs.Common.{sym, ap, ◌∙◌}
use Rattle.std.specs.List.{position, insert, remove}
use Rattle.converter_definitions.specs.Layers.{may_join}
use Rattle.conv_rules.proofs.Joining.{joined_there, joined_behind}
use Rattle.conv_rules.proofs.order.join_into.Goals as goal

pub returns-in_ok-insert-in-Some : goal.returns-in_ok-insert-in-Some
returns-in_ok-insert-in-Some c =
    c.in_ok-insert-in-Some.ensures.items
    ∙ ap (λ layers. insert layers c.in-Some.place c.in_ok-made-in-Some.made) c.remove-layer.ensures.items
    ∙ ap (λ layer. insert (remove c.args.layers.now.items c.in-Some.place) c.in-Some.place layer) c.in_ok-made-in-Some.ensures
    ∙ joined_there c.args.next c.args.layers.now.items c.in-Some.place c.remove-layer.result
    (sym c.in-Some.is ∙ c.partner.ensures.place ∙ ap (position (λ other. may_join other c.args.next)) c.as_slice.ensures.value) c.remove-layer.ensures.value

pub returns-in_ok-push-in-None : goal.returns-in_ok-push-in-None
returns-in_ok-push-in-None c =
    c.in_ok-push-in-None.ensures.items
    ∙ joined_behind c.args.next c.args.layers.now.items
    (sym c.in-None.is ∙ c.partner.ensures.place ∙ ap (position (λ other. may_join other c.args.next)) c.as_slice.ensures.value)
