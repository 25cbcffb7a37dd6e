use Rattle.std.proofs.Common.{◌≡◌, ◌++◌, [], ◌∷◌, List, ℕ, arith, sym, ap, ◌∙◌, subst, append_assoc, append-nil}
use Rattle.std.specs.Prelude.{OnOk}
use Rattle.downcast_definitions.specs.Among.{gap_in}
use Rattle.pos_mapper.proofs.Holder.{held-within, around_depth, gap_first, gap_before}
use Rattle.pos_mapper.proofs.seeking.+gaps.Goals as goal

pub push_gap-push_gap_inside-requires : goal.push_gap-push_gap_inside-requires
push_gap-push_gap_inside-requires t c =
    let w = held-within c.args.nodes.now c.args.number 0 c.in-Some.index c.in-Some.rest c.in-Some.node.now c.in-Some.ensures in
    let deep = w.0 in
    (omega (arith, c.decreases, deep), tt)

pub push_gap-returns : goal.push_gap-returns
push_gap-returns t c =
    subst (λ (wanted : List ℕ). OnOk c.push_gap_inside.result (c.push_gap_inside.new.place.items ≡ wanted))
    (ap (λ list. list ++ gap_in c.in-Some.node.now c.in-Some.rest) c.in_ok-push-2.ensures.items
    ∙ append_assoc c.args.place.now.items (c.in-Some.index ∷ []) (gap_in c.in-Some.node.now c.in-Some.rest)
    ∙ ap (λ list. c.args.place.now.items ++ list)
    (sym (gap_first c.args.nodes.now c.args.number c.in-Some.index c.in-Some.rest c.in-Some.node.now c.in-Some.ensures)))
    c.push_gap_inside.ensures

pub push_gap_inside-push_gap-requires : goal.push_gap_inside-push_gap-requires
push_gap_inside-push_gap-requires t c = (omega (arith, c.decreases, around_depth c.args.node.now c.in-Some.children.now c.in-Some.ensures), tt)

pub push_gap_inside-returns-then-number-eq0 : goal.push_gap_inside-returns-then-number-eq0
push_gap_inside-returns-then-number-eq0 t c =
    sym (append-nil c.args.place.now.items) ∙ ap (λ list. c.args.place.now.items ++ list) (sym (gap_before c.args.node.now c.args.number c.if-number-eq0.true))
