use Rattle.std.proofs.Common.{◌<◌, ◌^◌, arith, sym, ap, subst, ◌∙◌, length, option_map, slice_get}
use Rattle.item_definitions.specs.Item.{count_of}
use Rattle.model_tree.specs.Nodes.{characters, items_at}
use Rattle.model_tree.specs.Reading.{shown_of}
use Rattle.model_tree.proofs.Shown.{element_few, character_shown}
use Rattle.model_tree.proofs.reading.shown.Goals as goal

pub overflow_cast-result : goal.overflow_cast-result
overflow_cast-result c =
    let few = element_few c.in-Element.head c.in-Element.children (subst (λ node. count_of (items_at node) < 2 ^ 32) c.in-Element.is c.requires.few) in
    omega (arith, few, c.len.ensures)

pub returns-in-Run : goal.returns-in-Run
returns-in-Run c =
    let within : c.args.index < length (characters c.in-Run.text) = subst (λ node. c.args.index < length (items_at node)) c.in-Run.is c.requires.within in
    character_shown c.scalars.result.now c.in-Run.text c.args.index c.index-scalars-index.result c.attrs.result.now c.scalars.ensures c.attrs.ensures
    within c.index-scalars-index.is
    ∙ ap (λ node. option_map shown_of (slice_get (items_at node) c.args.index)) (sym c.in-Run.is)
