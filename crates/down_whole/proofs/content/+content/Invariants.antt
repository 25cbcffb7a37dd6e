use Rattle.std.proofs.Common.{◌+◌, ◌*◌, ◌≤◌, take}
use Rattle.item_definitions.specs.Item.{depth_of, items_of}
use Rattle.model_tree.specs.Nodes.{items_in}
use Rattle.conv_rules.specs.Listed.{boxed_count, conversion_of}
use Rattle.down_whole.specs.contracts.content.content as contract
use Rattle.down_whole.specs.Bound.{elements_among}
use Rattle.down_whole.specs.Viewed.{written}
use Rattle.down_whole.specs.Scenes.{scene_with}
use Rattle.down_whole.proofs.MadeItems.{Partway}
use Rattle.down_whole.proofs.content.+content.Given as goal

abbrev pub decreases-content : goal.decreases-content
decreases-content g l = depth_of l.items.now

-- the items so far are made, and the converters of the product were called for the elements among them
abbrev pub invariant-loop-node : goal.invariant-loop-node
invariant-loop-node g l =
    let conversion = conversion_of (λ b. (contract.dyn-1.members g.row.L g.dyn-1 (b.vtable, b.value)).gives b.value) l.list in
    let items = items_in (take l.node-index l.node-items) in
    record {
      way : Partway conversion (scene_with conversion l.scene) l.parent.name.now l.parent.path.now l.initial.maker.view.drawn items
          l.initial.maker.mapper (written l.row) l.maker.mapper l.offset l.before l.maker.view.drawn;
      calls : l.steps ≤ l.initial.steps + boxed_count conversion.converters * elements_among (items_of items);
    }
