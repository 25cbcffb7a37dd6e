-- The runs of items that a change of an attribute is made on, and new ids for items.
use Rattle.std.specs.Prelude.{◌≡◌, ◌≢◌, ℕ, ◌+◌, ◌-◌, ◌<◌, ◌≤◌, List, [], ◌∷◌, ◌++◌, take, drop, ◌&&◌, ◌==◌, nat_le, nat_lt, if◌then◌else◌, Option, Some, None}
use Rattle.std.specs.Prelude.{unwrap_or}
use Rattle.ck_base.specs.declared.value.Value.{Value as AttributeValue}
use Rattle.ck_base.specs.Entries.{value_of}
use Rattle.item_definitions.specs.Item.{Item, Items, character, element, none, more, attributes_of}
use Rattle.item_definitions.specs.Children.{parent_of, offset_of, children_at}
use Rattle.item_definitions.specs.Position.{Range, between}
use Rattle.operation_definitions.specs.Operation.{Operation, attribute}
use Rattle.operation_definitions.specs.After.{same_value}

-- neighbouring items from one offset up to another, which have this value of a key, or none of it
pub record Run : Type 0 where
  pub from : ℕ
  pub to : ℕ
  pub old : Option AttributeValue

-- a run of one item, in front of the runs of what is behind it: it is one with the first of them if that begins where it ends and has
-- the same value
abbrev pub joined : ℕ → Option AttributeValue → List Run → List Run
joined offset old [] = record { from = offset; to = offset + 1; old = old } ∷ []
joined offset old (run ∷ runs) =
    if run.from == offset + 1 && same_value run.old old then record { from = offset; to = run.to; old = old } ∷ runs
    else record { from = offset; to = offset + 1; old = old } ∷ run ∷ runs

-- the longest runs of items with an equal value of a key that isn't the new one, of items that begin at an offset
abbrev pub runs_of : List ℕ → Option AttributeValue → ℕ → List Item → List Run
runs_of key new offset [] = []
runs_of key new offset (item ∷ items) =
    let old = value_of key (attributes_of item) in
    let rest = runs_of key new (offset + 1) items in
    if same_value old new then rest else joined offset old rest

-- the value that runs tell of an offset: None where it is in none of them
abbrev pub value_told : ℕ → List Run → Option (Option AttributeValue)
value_told offset [] = None
value_told offset (run ∷ runs) = if nat_le run.from offset && nat_lt offset run.to then Some run.old else value_told offset runs

-- The runs are in order and apart, and none is empty. None could be longer: one that begins where another ends has another value.
abbrev pub AreLongest : List Run → Type 0
AreLongest [] = Unit {0}
AreLongest (run ∷ []) = run.from < run.to
AreLongest (run ∷ next ∷ runs) = (run.from < run.to) × (run.to ≤ next.from) × (next.from ≡ run.to → next.old ≢ run.old) × AreLongest (next ∷ runs)

-- the items of a flat range
abbrev pub items_of_range : List Item → Range → List Item
items_of_range items range =
    take (offset_of range.end - offset_of range.start) (drop (offset_of range.start) (unwrap_or (children_at (parent_of range.start) items) []))

-- a change of an attribute on each run
abbrev pub attribute_runs : List ℕ → List ℕ → Option AttributeValue → List Run → List Operation
attribute_runs parent key new [] = []
attribute_runs parent key new (run ∷ runs) = attribute (between (parent ++ run.from ∷ []) (parent ++ run.to ∷ [])) key run.old new
    ∷ attribute_runs parent key new runs

-- the operations that give the items of a flat range this value of a key, or none
abbrev pub give_in : List Item → List ℕ → Option AttributeValue → Range → List Operation
give_in items key new range = attribute_runs (parent_of range.start) key new (runs_of key new (offset_of range.start) (items_of_range items range))

abbrev mutual
  -- an item with ids from a number on, in document order, and the number behind them
  pub item_with_ids : ℕ → Item → Item × ℕ
  item_with_ids next (character scalar attributes) = (character scalar attributes, next)
  item_with_ids next (element id name attributes children) =
      let made = inner_with_ids (next + 1) children in
      (element next name attributes made.0, made.1)

  -- the same of the items in an element
  pub inner_with_ids : ℕ → Items → Items × ℕ
  inner_with_ids next none = (none, next)
  inner_with_ids next (more item items) =
      let first = item_with_ids next item in
      let rest = inner_with_ids first.1 items in
      (more first.0 rest.0, rest.1)

-- items with ids from a number on, in document order
abbrev pub with_ids : ℕ → List Item → List Item
with_ids next [] = []
with_ids next (item ∷ items) =
    let first = item_with_ids next item in
    first.0 ∷ with_ids first.1 items

abbrev mutual
  -- an item with 0 in place of each id
  pub item_without_ids : Item → Item
  item_without_ids (character scalar attributes) = character scalar attributes
  item_without_ids (element id name attributes children) = element 0 name attributes (inner_without_ids children)

  -- the same of the items in an element
  pub inner_without_ids : Items → Items
  inner_without_ids none = none
  inner_without_ids (more item items) = more (item_without_ids item) (inner_without_ids items)
