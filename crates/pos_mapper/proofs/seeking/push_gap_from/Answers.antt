use Rattle.std.proofs.Common.{◌≡◌, ◌++◌, ◌+◌, [], ◌∷◌, List, ℕ, arith, sym, ap, ◌∙◌, subst, append_assoc}
use Rattle.std.specs.Prelude.{OnOk}
use Rattle.downcast_definitions.specs.Among.{gap_in}
use Rattle.pos_mapper.proofs.Holder.{held-within, gap_found}
use Rattle.pos_mapper.proofs.seeking.push_gap_from.Goals as goal

pub overflow_add-base-2 : goal.overflow_add-base-2
overflow_add-base-2 c =
    let w = held-within c.args.nodes.now c.args.number 0 c.in-Some.index c.in-Some.rest c.in-Some.node.now c.in-Some.ensures in
    let within = w.1 in
    omega (arith, within, c.requires)

pub returns : goal.returns
returns c =
    subst (λ (wanted : List ℕ). OnOk c.push_gap_inside.result (c.push_gap_inside.new.place.items ≡ wanted))
    (ap (λ list. list ++ gap_in c.in-Some.node.now c.in-Some.rest) c.in_ok-push-2.ensures.items
    ∙ append_assoc c.args.place.now.items ((c.args.base + c.in-Some.index) ∷ []) (gap_in c.in-Some.node.now c.in-Some.rest)
    ∙ ap (λ list. c.args.place.now.items ++ list)
    (sym (gap_found c.args.nodes.now c.args.number c.args.base c.in-Some.index c.in-Some.rest c.in-Some.node.now c.in-Some.ensures)))
    c.push_gap_inside.ensures
