use Rattle.std.proofs.Common.{arith, [], ◌∷◌, sym, ap, ◌∙◌}
use Rattle.std.specs.Prelude.{option_to_list}
use Rattle.view_wrap.proofs.Meeting.{children_depth, first_depth}
use Rattle.view_wrap.proofs.Cutting.{layer_rest, inside_front, inside_back, none_back}
use Rattle.view_wrap.proofs.breaks.+breaks.Goals as goal

pub break_layer-break_list-requires : goal.break_layer-break_list-requires
break_layer-break_list-requires t c = (omega (arith, c.decreases, children_depth _ _ c.take_children-children.ensures.children), tt)

pub break_list-break_node-requires : goal.break_list-break_node-requires
break_list-break_node-requires t c =
    (omega (arith, c.decreases, first_depth c.place_of-index.result.0 c.args.nodes.now.nodes _ _ _ c.in_ok-back.ensures.back c.in-Some.ensures.some), tt)

pub break_layer-returns-clause-rest : goal.break_layer-returns-clause-rest
break_layer-returns-clause-rest t c =
    layer_rest c.args.at c.args.layer c.args.node _ _ _ c.requires c.take_children-children.ensures.children c.in_ok-back.ensures.back c.in_ok-rest.ensures

pub break_list-returns-in_ok-whole-in-Some-2-clause-front : goal.break_list-returns-in_ok-whole-in-Some-2-clause-front
break_list-returns-in_ok-whole-in-Some-2-clause-front t c =
    inside_front c.args.at _ _ c.args.nodes.now.nodes _ _ c.place_of-index.ensures.index c.place_of-index.ensures.inside c.in_ok-back.ensures.front
    c.in_ok-back.ensures.back
    _ _ c.in-Some.ensures.some c.if-inside-eq0.false _ c.in_ok-rest.ensures.front

pub break_list-returns-in_ok-whole-in-Some-2-clause-back : goal.break_list-returns-in_ok-whole-in-Some-2-clause-back
break_list-returns-in_ok-whole-in-Some-2-clause-back t c =
    inside_back c.args.at _ _ c.args.nodes.now.nodes _ _ c.place_of-index.ensures.index c.place_of-index.ensures.inside c.in_ok-back.ensures.front
    c.in_ok-back.ensures.back
    _ _ c.in-Some.ensures.some c.if-inside-eq0.false (c.in-Some-2.rest ∷ []) _ (ap option_to_list (sym c.in-Some-2.is) ∙ c.in_ok-rest.ensures.rest)
    c.in_ok-whole-in-Some-2.ensures

pub break_list-returns-in-None-clause-front : goal.break_list-returns-in-None-clause-front
break_list-returns-in-None-clause-front t c =
    inside_front c.args.at _ _ c.args.nodes.now.nodes _ _ c.place_of-index.ensures.index c.place_of-index.ensures.inside c.in_ok-back.ensures.front
    c.in_ok-back.ensures.back
    _ _ c.in-Some.ensures.some c.if-inside-eq0.false _ c.in_ok-rest.ensures.front

pub break_list-returns-in-None-clause-back : goal.break_list-returns-in-None-clause-back
break_list-returns-in-None-clause-back t c =
    none_back c.args.at _ _ c.args.nodes.now.nodes _ _ c.place_of-index.ensures.index c.place_of-index.ensures.inside c.in_ok-back.ensures.front
    c.in_ok-back.ensures.back
    _ _ c.in-Some.ensures.some c.if-inside-eq0.false (ap option_to_list (sym c.in-None.is) ∙ c.in_ok-rest.ensures.rest)
