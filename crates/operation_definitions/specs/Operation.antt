-- The operations by which a document changes, and why one is refused. (After the operations of CKEditor 5's model; its graveyard is
-- here a list of numbered cells, in which items that were taken out are kept.)
use Rattle.std.specs.Prelude.{ℕ, List, Option}
use Rattle.ck_base.specs.declared.value.Value.{Value as AttributeValue}
use Rattle.item_definitions.specs.Item.{Item}
use Rattle.item_definitions.specs.Position.{Range}

-- where items are taken from or go to: a position in the tree, or a cell
pub data Place : Type 0 where
  in_tree : List ℕ → Place
  in_cell : ℕ → Place

-- where the second element of a split comes from: it is a new one with this id, or it is in a cell
pub data Source : Type 0 where
  fresh : ℕ → Source
  from_cell : ℕ → Source

-- Items come in at a position. `count` items move from one place to another. The items of a range get another value of a key. An element
-- gets another name. The parent of a position is split there. The element at a path is merged into the one before it, and goes into a
-- cell. A marker gets another range.
pub data Operation : Type 0 where
  insert : List ℕ → List Item → Operation
  move : Place → ℕ → Place → Operation
  attribute : Range → List ℕ → Option AttributeValue → Option AttributeValue → Operation
  rename : List ℕ → List ℕ → List ℕ → Operation
  split : List ℕ → Source → Operation
  merge : List ℕ → List ℕ → ℕ → Operation
  marker : List ℕ → Option Range → Option Range → Operation

-- what an operation finds where it names something else: the value of a key, or a name
pub data Found : Type 0 where
  found_value : Option AttributeValue → Found
  found_name : List ℕ → Found

-- why an operation is refused: a position, run, element or range isn't there; a range isn't flat; a run would go into itself; the old
-- value or name is another one; the element has no element before it that ends at the target; a cell isn't as it has to be; the tree
-- would have too many items, or too many levels of them
pub data Fault : Type 0 where
  no_place : Fault
  not_flat : Fault
  into_itself : Fault
  old_differs : Found → Fault
  not_neighbours : Fault
  cell_state : ℕ → Fault
  too_large : ℕ → Fault
  too_deep : ℕ → Fault
