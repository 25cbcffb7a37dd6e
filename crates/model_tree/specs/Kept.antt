-- What holds of the parts of every list of items.
use Rattle.model_tree.specs.declared.items.Items.TheInside.{Inside}
use Rattle.model_tree.specs.Nodes.{items_in, IsNormal}
use Rattle.model_tree.specs.Sizes.{AreSizes}
use Rattle.operation_definitions.specs.Reversed.{AreOrdered}

-- the nodes are in normal form, the sizes are those of the items, and the keys of these are in order
pub record IsKept (inside : Inside) : Type 0 where
  pub normal : IsNormal inside.nodes.value.items
  pub sizes : AreSizes (items_in inside.nodes.value.items) inside.sizes.long inside.sizes.count inside.sizes.depth
  pub ordered : AreOrdered (items_in inside.nodes.value.items)
