use Rattle.std.proofs.Common.{◌≡◌, ◌++◌, [], ◌∷◌, List, ℕ, arith, sym, ap, ◌∙◌, subst, append_assoc, append-nil}
use Rattle.std.specs.Prelude.{OnOk}
use Rattle.downcast_definitions.specs.Among.{place_in}
use Rattle.pos_mapper.proofs.Holder.{held-within, around_depth, place_first, place_nowhere}
use Rattle.pos_mapper.proofs.seeking.+places.Goals as goal

pub push_place-push_inside-requires : goal.push_place-push_inside-requires
push_place-push_inside-requires t c =
    let w = held-within c.args.nodes.now c.args.number 0 c.in-Some.index c.in-Some.rest c.in-Some.node.now c.in-Some.ensures in
    let deep = w.0 in
    (omega (arith, c.decreases, deep), tt)

pub push_place-returns : goal.push_place-returns
push_place-returns t c =
    subst (λ (wanted : List ℕ). OnOk c.push_inside.result (c.push_inside.new.place.items ≡ wanted))
    (ap (λ list. list ++ place_in c.args.further c.in-Some.node.now c.in-Some.rest) c.in_ok-push.ensures.items
    ∙ append_assoc c.args.place.now.items (c.in-Some.index ∷ []) (place_in c.args.further c.in-Some.node.now c.in-Some.rest)
    ∙ ap (λ list. c.args.place.now.items ++ list)
    (sym (place_first c.args.further c.args.nodes.now c.args.number c.in-Some.index c.in-Some.rest c.in-Some.node.now c.in-Some.ensures)))
    c.push_inside.ensures

pub push_inside-push_place-requires : goal.push_inside-push_place-requires
push_inside-push_place-requires t c = (omega (arith, c.decreases, around_depth c.args.node.now c.in-Some.children.now c.in-Some.ensures), tt)

pub push_place-returns-in_default : goal.push_place-returns-in_default
push_place-returns-in_default t c =
    sym (append-nil c.args.place.now.items)
    ∙ ap (λ list. c.args.place.now.items ++ list) (sym (place_nowhere c.args.further c.args.nodes.now c.args.number 0 c.in_default.ensures))
