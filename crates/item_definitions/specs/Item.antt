-- What a document is made of: a list of items, each a character or an element. (After the model's nodes of CKEditor 5, but that a
-- text stands as its characters.)
use Rattle.std.specs.Prelude.{ℕ, ◌+◌, max, List, [], ◌∷◌, Option, Some, None}
use Rattle.ck_base.specs.declared.value.Value.{Value as AttributeValue}

-- keys with their values, in the order of the keys' bytes
abbrev pub Attributes : Type 0
Attributes = List (List ℕ × AttributeValue)

mutual
  -- a character by its Unicode scalar value, or an element by its id and its name, each with its attributes
  pub data Item : Type 0 where
    character : ℕ → Attributes → Item
    element : ℕ → List ℕ → Attributes → Items → Item

  -- the children of an element
  pub data Items : Type 0 where
    none : Items
    more : Item → Items → Items

-- the children as a list
abbrev pub list_of : Items → List Item
list_of none = []
list_of (more item items) = item ∷ list_of items

-- a list as children
abbrev pub items_of : List Item → Items
items_of [] = none
items_of (item ∷ items) = more item (items_of items)

-- the items in an element: None for a character
abbrev pub inner : Item → Option (List Item)
inner (character scalar attributes) = None
inner (element id name attributes children) = Some (list_of children)

-- the same element with these items in it; a character stays
abbrev pub with_inner : List Item → Item → Item
with_inner items (character scalar attributes) = character scalar attributes
with_inner items (element id name attributes children) = element id name attributes (items_of items)

-- its attributes
abbrev pub attributes_of : Item → Attributes
attributes_of (character scalar attributes) = attributes
attributes_of (element id name attributes children) = attributes

-- the same item with these attributes
abbrev pub with_attributes : Attributes → Item → Item
with_attributes new (character scalar attributes) = character scalar new
with_attributes new (element id name attributes children) = element id name new children

abbrev mutual
  -- an item counts itself and all that is in it
  pub item_count : Item → ℕ
  item_count (character scalar attributes) = 1
  item_count (element id name attributes children) = 1 + inner_count children

  -- how many items there are in an element, at all depths
  pub inner_count : Items → ℕ
  inner_count none = 0
  inner_count (more item items) = item_count item + inner_count items

abbrev mutual
  -- how many levels of items there are from an item down
  pub item_depth : Item → ℕ
  item_depth (character scalar attributes) = 1
  item_depth (element id name attributes children) = 1 + inner_depth children

  -- how many levels of items there are in an element
  pub inner_depth : Items → ℕ
  inner_depth none = 0
  inner_depth (more item items) = max (item_depth item) (inner_depth items)

-- how many items there are in a list, at all depths
abbrev pub count_of : List Item → ℕ
count_of [] = 0
count_of (item ∷ items) = item_count item + count_of items

-- the depth of the deepest item of a list: 1 where no item has items in it, 0 for the empty list
abbrev pub depth_of : List Item → ℕ
depth_of [] = 0
depth_of (item ∷ items) = max (item_depth item) (depth_of items)
