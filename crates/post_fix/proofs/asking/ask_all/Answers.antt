use Rattle.std.proofs.Common.{◌++◌, [], None, ap, ◌∙◌}
use Rattle.item_definitions.specs.Item.{items_of}
use Rattle.post_fix.specs.Walked.{wanted_from, root_wanted}
use Rattle.post_fix.proofs.Asked.{all_asked}
use Rattle.post_fix.proofs.asking.ask_all.Goals as goal

pub returns : goal.returns
returns c =
    all_asked c.args.fixer.now c.args.tree.now c.args.out.now.items c.ask_root.new.out.items c.ask_items.new.out.items c.requires
    (c.in_ok-ask_root.ensures ∙ ap (λ items. c.args.out.now.items ++ root_wanted c.args.fixer.now items) c.items-items.ensures.items)
    (c.in_ok-ask_items.ensures ∙ ap (λ items. c.ask_root.new.out.items ++ wanted_from c.args.fixer.now [] 0 None (items_of items)) c.items-items.ensures.items)
