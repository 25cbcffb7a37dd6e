use Rattle.std.proofs.Common.{◌≡◌, ◌++◌, ◌+◌, [], ◌∷◌, List, ℕ, arith, sym, ap, ◌∙◌, subst, append_assoc, append-nil}
use Rattle.std.specs.Prelude.{OnOk}
use Rattle.downcast_definitions.specs.Among.{place_in}
use Rattle.pos_mapper.proofs.Holder.{held-within, place_found, place_nowhere}
use Rattle.pos_mapper.proofs.seeking.push_place_from.Goals as goal

pub overflow_add-base : goal.overflow_add-base
overflow_add-base c =
    let w = held-within c.args.nodes.now c.args.number 0 c.in-Some.index c.in-Some.rest c.in-Some.node.now c.in-Some.ensures in
    let within = w.1 in
    omega (arith, within, c.requires)

pub returns : goal.returns
returns c =
    subst (λ (wanted : List ℕ). OnOk c.push_inside.result (c.push_inside.new.place.items ≡ wanted))
    (ap (λ list. list ++ place_in c.args.further c.in-Some.node.now c.in-Some.rest) c.in_ok-push.ensures.items
    ∙ append_assoc c.args.place.now.items ((c.args.base + c.in-Some.index) ∷ []) (place_in c.args.further c.in-Some.node.now c.in-Some.rest)
    ∙ ap (λ list. c.args.place.now.items ++ list)
    (sym (place_found c.args.further c.args.nodes.now c.args.number c.args.base c.in-Some.index c.in-Some.rest c.in-Some.node.now c.in-Some.ensures)))
    c.push_inside.ensures

pub returns-in_default : goal.returns-in_default
returns-in_default c =
    sym (append-nil c.args.place.now.items)
    ∙ ap (λ list. c.args.place.now.items ++ list) (sym (place_nowhere c.args.further c.args.nodes.now c.args.number c.args.base c.in_default.ensures))
